use Rattle.std.proofs.Common.{◌-◌, ◌<◌, length, drop, is_ok, sym, ap, ◌∙◌}
use Rattle.card.specs.Reading.{entry}
use Rattle.card.proofs.Framing.{front_begins}
use Rattle.card.proofs.Loads.{Coming, coming_end, coming_end_journal, coming_on, open_found}
use Rattle.card.proofs.loading.take_records.Goals as goal
use Rattle.card.proofs.loading.take_records.Goals.{In_ok-map_err}

pub returns-in-End : goal.returns-in-End
returns-in-End c =
    let here = coming_end c.args.card.now c.args.model.now c.loop-found.reader.card.now c.loop-found.reader.offset c.loop-found.model c.loop-found.invariant in
    let journal = coming_end_journal c.args.card.now c.args.model.now c.loop-found.reader.card.now c.loop-found.reader.offset c.loop-found.model c.loop-found.invariant in
    let is = rw c.in-End.is at c.in_ok-found.ensures.read in
    record { defined = here is; journal = journal is }

pub take_record-requires : goal.take_record-requires
take_record-requires c = (front_begins c.loop-found.reader.offset (drop c.loop-found.reader.offset c.loop-found.reader.card.now) (entry c.in_ok-found.found) (sym c.in_ok-found.ensures.read)).framed

-- the record was taken
went : (c : In_ok-map_err) → Coming c.args.card.now c.args.model.now c.next_record.new.self.card.now c.next_record.new.self.offset c.take_record.new.model
    × (length c.args.card.now - c.next_record.new.self.offset < length c.args.card.now - c.loop-found.reader.offset)
went c =
    let read = c.in_ok-found.ensures in
    coming_on c.args.card.now c.args.model.now c.loop-found.reader.card.now c.loop-found.reader.offset c.loop-found.model c.loop-found.invariant
    (entry c.in_ok-found.found) read.read (open_found c.in_ok-found.found c.in_default.not-End)
    c.take_record.result (sym c.map_err.ensures.variant ∙ ap is_ok c.in_ok-map_err.was)
    c.take_record.new.model c.next_record.new.self.card.now c.next_record.new.self.offset (ap (λ x. x.now) read.card) read.offset c.take_record.ensures.defined c.take_record.ensures.journal

pub loop-found-smaller : goal.loop-found-smaller
loop-found-smaller c = (went c).1

pub loop-found-preserved : goal.loop-found-preserved
loop-found-preserved c = (went c).0
