use Rattle.std.proofs.Common.{◌<◌, [], ◌∷◌, ◌++◌, map, take, Ok, refl, ap, ◌∙◌, arith, rules, length-set}
use Rattle.model.specs.Holding.{sizes_of, sound_rules}
use Rattle.model.specs.Alternatives.{weights_of, canonical_alternative}
use Rattle.model.proofs.Declares.{declaring_more, alternatives_count, canonical_more, alternative_canonical, unused_more, sizes_more, alternatives_more, weights_back}
use Rattle.model.proofs.Journals.{agrees_declares}
use Rattle.model.proofs.Sizes.{one_wider, sound_wider}
use Rattle.model.proofs.model.Model.declare.Goals as goal

pub invariant_of-self : goal.invariant_of-self
invariant_of-self c =
    let m = c.args.self.now in
    let a = c.new-2.result in
    let room : m.declared < 16 = omega arith in
    let whole = ap canonical_alternative c.new-2.ensures ∙ alternative_canonical c.args.weights.now (search rules) (search rules) in
    let wider = sound_wider (sizes_of (take m.declared m.alternatives)) (sizes_of (take m.declared m.alternatives) ++ (a.choices ∷ [])) (one_wider _ a.choices) (take m.held m.rules) m.sound in
    record {
      places = length-set m.alternatives m.declared a ∙ m.places;
      few = omega arith;
      canonical = canonical_more m.alternatives m.declared a m.places room m.canonical whole;
      unused = unused_more m.alternatives m.declared a m.places room m.unused;
      shelves = m.shelves;
      within = m.within;
      sound = ap (λ s. sound_rules s (take m.held m.rules)) (sizes_more m.alternatives m.declared a m.places room) ∙ wider;
      minimal = m.minimal;
      unheld = m.unheld;
    }

pub returns-clause-journal : goal.returns-clause-journal
returns-clause-journal c =
    let m = c.args.self.now in
    let room : m.declared < 16 = omega arith in
    let count = alternatives_count m.alternatives m.declared (omega (arith, m.places)) in
    let back = ap weights_of c.new-2.ensures ∙ weights_back c.args.weights.now (search rules) in
    let defined =
    ap Ok (alternatives_more m.alternatives m.declared c.new-2.result m.places room ∙ ap (λ ws. map weights_of (take m.declared m.alternatives) ++ (ws ∷ [])) back)
    ∙ declaring_more (map weights_of (take m.declared m.alternatives)) c.args.weights.now (search rules) (search rules) (omega arith) in
    λ j s g. agrees_declares j m _ s g (Ok tt) c.args.weights.now defined refl tt
