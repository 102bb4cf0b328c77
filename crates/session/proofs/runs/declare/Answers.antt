use Rattle.std.proofs.Common.{refl}
use Rattle.session.proofs.Accepted.{answers_declares}
use Rattle.session.proofs.runs.declare.Goals as goal

pub returns-clause-accepted : goal.returns-clause-accepted
returns-clause-accepted c = λ j s. (answers_declares s c.declare.result c.is_ok.ensures.value refl c.declare.ensures.defined c.declare.ensures.journal).0 j

pub returns-clause-journal : goal.returns-clause-journal
returns-clause-journal c = λ j s. (answers_declares s c.declare.result c.is_ok.ensures.value refl c.declare.ensures.defined c.declare.ensures.journal).1 j
