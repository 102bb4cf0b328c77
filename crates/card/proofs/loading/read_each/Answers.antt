use Rattle.std.proofs.Common.{◌≡◌, ◌/◌, length, take, ap, ◌∙◌, subst, arith}
use Rattle.card.proofs.Decoding.{Filling, filling_none, filling_more, filling_all}
use Rattle.card.proofs.loading.read_each.Goals as goal

pub loop-i-init : goal.loop-i-init
loop-i-init g c = filling_none g.T.Packed.unpacked g.row.N c.args.bytes.now c.args.places.now

pub loop-i-preserved : goal.loop-i-preserved
loop-i-preserved g c =
    filling_more g.T.Packed.unpacked g.row.N c.args.bytes.now c.loop-i.places c.loop-i.i c.unpack.result c.as_chunks.result.0.now c.index-each-i.result c.loop-i.invariant (omega arith) (omega arith)
    c.as_chunks.ensures.front c.index-each-i.is c.unpack.ensures

pub returns : goal.returns
returns g c =
    let bytes = c.args.bytes.now in
    let n = length bytes / g.row.N in
    let all : c.loop-i.i ≡ n = omega arith in
    let laws = g.met.T.Packed in
    ap (λ k. take k c.loop-i.places) c.as_chunks.ensures.front_len
    ∙ filling_all g.T.Packed.unpacked g.row.N bytes c.loop-i.places laws.few.0 laws.none (subst (Filling g.T.Packed.unpacked g.row.N bytes c.loop-i.places) all c.loop-i.invariant)
