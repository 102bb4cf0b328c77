use Rattle.std.proofs.Common.{◌<◌, ◌/◌, length, get_or, ap, ◌∙◌, arith}
use Rattle.card.proofs.Opening.{weight_there}
use Rattle.card.proofs.reader.raw_weight.Goals as goal

pub returns : goal.returns
returns c =
    let weights = c.args.weights.now in
    let i = c.args.index in
    let bytes = c.in_ok-bytes.bytes.now in
    let found = c.in_ok-bytes.ensures.lookup in
    let here : i < length weights / 4 = omega (arith, found.3.0, c.as_chunks.ensures.front_len) in
    weight_there weights bytes i c.from_le_bytes.result here (found.1 ∙ ap (λ each. get_or each i bytes) c.as_chunks.ensures.front) c.from_le_bytes.ensures
