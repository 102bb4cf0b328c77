use Rattle.std.proofs.Common.{◌-◌, ◌<◌, ◌≤◌, get_or, take, set, Ok, sym, refl, ap, ◌∙◌, arith, length-set}
use Rattle.std.proofs.lemmas.List.{drop-set-lt}
use Rattle.std.proofs.lemmas.Bool.{cond-true}
use Rattle.std.proofs.lemmas.Bool.Decides.{nat_tests}
use Rattle.model.specs.Holding.{sound_rules}
use Rattle.model.specs.Models.{alternatives}
use Rattle.model.proofs.Journals.{agrees_weighs}
use Rattle.model.proofs.Tables.{nowhere, declared_place, whole_at, reweighed, reweighed_canonical, reweighed_weights, canonical_with, sizes_with, weights_with, weights_there}
use Rattle.model.proofs.model.Model.set_weight.Goals as goal
use Rattle.model.proofs.model.Model.set_weight.Goals.{Else-not-is_declared}

-- where the weight is written
place : (c : Else-not-is_declared) → (1 ≤ c.args.alternative) × (c.args.alternative - 1 < c.args.self.now.declared) × (1 ≤ c.args.choice) × (c.args.choice - 1 < (get_or c.args.self.now.alternatives (c.args.alternative - 1) nowhere).choices)
place c =
    let m = c.args.self.now in
    declared_place m.alternatives m.declared m.places m.few m.canonical c.args.alternative c.args.choice (sym c.if-not-is_declared.ensures)

pub bounds-self-choice : goal.bounds-self-choice
bounds-self-choice c =
    let m = c.args.self.now in
    let p = place (goal.at.bounds-self-choice c).Else-not-is_declared in
    let whole = whole_at m.alternatives m.declared m.places m.few m.canonical (c.args.alternative - 1) p.1 in
    grind (arith, nat_tests)

pub invariant_of-self : goal.invariant_of-self
invariant_of-self c =
    let m = c.args.self.now in
    let i = c.args.alternative - 1 in
    let p = place (goal.at.invariant_of-self c).Else-not-is_declared in
    let a = get_or m.alternatives i nowhere in
    let whole = whole_at m.alternatives m.declared m.places m.few m.canonical i p.1 in
    let b = reweighed a (c.args.choice - 1) c.args.weight whole p.3 in
    record {
      places = length-set m.alternatives i b ∙ m.places;
      few = m.few;
      canonical = canonical_with m.alternatives m.declared i b m.places m.few p.1 m.canonical (reweighed_canonical a (c.args.choice - 1) c.args.weight whole p.3);
      unused = drop-set-lt m.declared m.alternatives i b p.1 ∙ m.unused;
      shelves = m.shelves;
      within = m.within;
      sound = ap (λ s. sound_rules s (take m.held m.rules)) (sizes_with m.alternatives m.declared i b m.places m.few p.1 refl) ∙ m.sound;
      minimal = m.minimal;
      unheld = m.unheld;
    }

pub returns : goal.returns
returns c =
    let m = c.args.self.now in
    let i = c.args.alternative - 1 in
    let p = place (goal.at.returns c).Else-not-is_declared in
    let a = get_or m.alternatives i nowhere in
    let whole = whole_at m.alternatives m.declared m.places m.few m.canonical i p.1 in
    let b = reweighed a (c.args.choice - 1) c.args.weight whole p.3 in
    let defined =
    ap Ok (weights_with m.alternatives m.declared i b m.places m.few p.1
    ∙ ap (set (alternatives m) i) (reweighed_weights a (c.args.choice - 1) c.args.weight whole p.3 ∙ ap (λ ws. set ws (c.args.choice - 1) c.args.weight) (sym (weights_there m.alternatives m.declared i b m.places m.few p.1))))
    ∙ sym (cond-true _ _ _ (sym c.if-not-is_declared.ensures)) in
    record { defined = defined; rules = refl; refused = tt; journal = λ j s g. agrees_weighs j m _ s g (Ok tt) c.args.alternative c.args.choice c.args.weight defined refl tt }
