use Rattle.std.proofs.Common.{◌≡◌, ◌-◌, ◌<◌, [], ◌∷◌, length, refl, ap, arith}
use Rattle.std.proofs.lemmas.Result.{err_from_is_err_and}
use Rattle.card.specs.declared.reader.Record.{Record}
use Rattle.card.specs.Reading.{entry}
use Rattle.card.specs.Walking.{Open, counted}
use Rattle.card.proofs.Walks.{Sofar, sofar_more, sofar_end, sofar_fault, answer_law, answer_each}
use Rattle.card.proofs.contents.walk.Goals as goal
use Rattle.card.proofs.contents.walk.Goals.{In_ok-next_record}

pub loop-contents-init : goal.loop-contents-init
loop-contents-init c = rw c.new-reader.ensures.start (record { same = c.new-reader.ensures.card; inside = omega arith; few = omega arith; rest = refl })

-- any record but the end record is counted
went : (c : In_ok-next_record) (r : Record) → c.in_ok-next_record.field-0 ≡ r → Open (entry r ∷ [])
    → Sofar c.args.card.now c.next_record.new.self.card.now c.next_record.new.self.offset (counted c.loop-contents.contents (entry r ∷ []))
    × (length c.args.card.now - c.next_record.new.self.offset < length c.args.card.now - c.loop-contents.reader.offset)
went c r is more =
    let told = c.in_ok-next_record.ensures in
    sofar_more c.args.card.now c.loop-contents.reader.card.now c.loop-contents.reader.offset c.loop-contents.contents c.loop-contents.invariant
    (entry r) c.next_record.new.self.card.now c.next_record.new.self.offset (ap (λ x. x.now) told.card) (rw is at told.read) (rw is at told.offset) more

pub loop-contents-smaller-in-Alternative : goal.loop-contents-smaller-in-Alternative
loop-contents-smaller-in-Alternative c = (went (goal.at.loop-contents-smaller-in-Alternative c).In_ok-next_record _ c.in-Alternative.is tt).1

pub loop-contents-preserved-in-Alternative : goal.loop-contents-preserved-in-Alternative
loop-contents-preserved-in-Alternative c = (went (goal.at.loop-contents-preserved-in-Alternative c).In_ok-next_record _ c.in-Alternative.is tt).0

pub loop-contents-smaller : goal.loop-contents-smaller
loop-contents-smaller c = (went (goal.at.loop-contents-smaller c).In_ok-next_record _ c.in-Rule.is tt).1

pub loop-contents-preserved : goal.loop-contents-preserved
loop-contents-preserved c = (went (goal.at.loop-contents-preserved c).In_ok-next_record _ c.in-Rule.is tt).0

pub returns-in_err-next_record : goal.returns-in_err-next_record
returns-in_err-next_record c =
    let p = err_from_is_err_and c.from_residual.result c.from_residual.ensures.1 in
    let done = sofar_fault c.args.card.now c.loop-contents.reader.card.now c.loop-contents.reader.offset c.loop-contents.contents c.loop-contents.invariant c.in_err-next_record.field-0.0 c.in_err-next_record.ensures.read in
    rw (p.1, p.2) (record { defined = done; law = answer_law c.args.card.now _ done; each = answer_each c.args.card.now _ done })

pub returns-in-End : goal.returns-in-End
returns-in-End c =
    let done = sofar_end c.args.card.now c.loop-contents.reader.card.now c.loop-contents.reader.offset c.loop-contents.contents c.loop-contents.invariant (rw c.in-End.is at c.in_ok-next_record.ensures.read) in
    record { defined = done; law = answer_law c.args.card.now _ done; each = answer_each c.args.card.now _ done }
