use Rattle.std.proofs.Common.{sym, ap, ◌∙◌, subst}
use Rattle.model.specs.Journal.{Agrees}
use Rattle.session.specs.Running.{answered}
use Rattle.session.specs.Sessions.{called, accepts}
use Rattle.session.proofs.Accepted.{answers_weighs, answers_states}
use Rattle.session.proofs.runs.answer.Goals as goal

pub returns-in-Declare : goal.returns-in-Declare
returns-in-Declare c =
    let is = sym (ap called c.in-Declare.is) in
    record { accepted = λ j g. c.declare.ensures.accepted j _ g ∙ ap (accepts j) is; journal = λ j g. subst (λ call. Agrees (answered j call) c.declare.new.model c.args.suppositions.now) is (c.declare.ensures.journal j _ g) }

pub returns-in-SetWeight : goal.returns-in-SetWeight
returns-in-SetWeight c =
    let said = c.set_weight.ensures in
    let both = answers_weighs c.args.suppositions.now c.set_weight.result c.is_ok.ensures.value (ap called c.in-SetWeight.is) said.defined said.journal in
    record { accepted = both.0; journal = both.1 }

pub returns-in-State : goal.returns-in-State
returns-in-State c =
    let said = c.state.ensures in
    let both = answers_states c.args.suppositions.now c.state.result c.is_ok-in-State.ensures.value (ap called c.in-State.is) said.defined said.journal in
    record { accepted = both.0; journal = both.1 }
