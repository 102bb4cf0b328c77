-- The rows of bodies, literal by literal and rule by rule.
use Rattle.std.proofs.Common.{◌≡◌, ℕ, ◌+◌, ◌<◌, ◌≤◌, true, false, cond, eqb, List, [], ◌∷◌, map, length, get_or, drop, Some, None, Option, sym, refl, ap, ◌∙◌}
use Rattle.std.specs.Option.{option_map}
use Rattle.std.proofs.lemmas.List.{at_drop_more, at_drop_all}
use Rattle.std.proofs.lemmas.Bool.{cond-true, cond-false}
use Rattle.rows.specs.Keeping.{and_then, kept_all}
use Rattle.rows.specs.Worlds.{inside, sooner}
use Rattle.rows.specs.declared.row.Row.{Row}
use Rattle.logic.specs.Atoms.{Lists, lists_of, body_from, bodies_from}
use Rattle.logic.specs.Duals.{empty, put_rows, conjoined}
use Rattle.logic.specs.Options as logic
use Rattle.logic.specs.Options.{Options}
use Rattle.logic.specs.Rules as rules
use Rattle.logic.proofs.Mapped.{choices_kept}
use Rattle.model.specs.declared.literal.Literal.{Literal}
use Rattle.model.specs.declared.rule.Rule.{Rule}
use Rattle.model.specs.Literals.{blank_literal}
use Rattle.model.specs.Meaning.{meaning, held_rule}
use Rattle.model.specs.Rules.{literals}
use Rattle.explain.specs.Lists.{as_lists}

-- the turns of the loop over the literals of a body
module _ (limit : ℕ) (os : Options) (t : List Lists) (body : List Literal) (i : ℕ) (rows : List logic.Row) where
  abbrev later : ℕ → List rules.Literal
  later n = map meaning (drop n body)

  pub body_all : length body ≤ i → body_from limit os t rows (later i) ≡ Some rows
  unfolding body_from
  body_all l = at_drop_all (λ ls. body_from limit os t rows (map meaning ls)) body i l

  module _ (h : i < length body) (list : List logic.Row) (is : list ≡ (lists_of os t (meaning (get_or body i blank_literal))).own) where
    next_rows : (o : Option (List logic.Row)) → o ≡ conjoined limit rows list → and_then o (λ next. body_from limit os t next (later (i + 1))) ≡ body_from limit os t rows (later i)
    unfolding body_from
    next_rows o p =
        ap (λ q. and_then q (λ next. body_from limit os t next (later (i + 1)))) (p ∙ ap (conjoined limit rows) is)
        ∙ sym (at_drop_more (λ ls. body_from limit os t rows (map meaning ls)) body i blank_literal h)

    pub body_more : (next : List logic.Row) → Some next ≡ conjoined limit rows list → body_from limit os t next (later (i + 1)) ≡ body_from limit os t rows (later i)
    body_more next p = next_rows (Some next) p

    pub body_stop : None ≡ conjoined limit rows list → None ≡ body_from limit os t rows (later i)
    body_stop p = next_rows None p

-- what stands past the end of a list of rules
abbrev pub no_rule : Rule
no_rule = record { head = 0; len = 0; body = [] }

-- the turns of the loop over the rules
module _ (limit : ℕ) (os : Options) (t : List Lists) (atom : ℕ) (rs : List Rule) (i : ℕ) (held : List logic.Row) where
  abbrev rules_left : ℕ → List rules.Rule
  rules_left n = rules.rules_for (map held_rule (drop n rs)) atom

  pub bodies_all : length rs ≤ i → bodies_from limit os t held (rules_left i) ≡ Some held
  unfolding bodies_from
  bodies_all l = at_drop_all (λ ss. bodies_from limit os t held (rules.rules_for (map held_rule ss) atom)) rs i l

  module _ (h : i < length rs) where
    abbrev here : Rule
    here = get_or rs i no_rule

    split : rules_left i ≡ cond (eqb here.head atom) (held_rule here ∷ rules_left (i + 1)) (rules_left (i + 1))
    split = at_drop_more (λ ss. rules.rules_for (map held_rule ss) atom) rs i no_rule h

    pub bodies_skip : eqb here.head atom ≡ false → bodies_from limit os t held (rules_left (i + 1)) ≡ bodies_from limit os t held (rules_left i)
    bodies_skip other = ap (bodies_from limit os t held) (sym (split ∙ cond-false _ _ _ other))

    module _ (same : eqb here.head atom ≡ true) where
      abbrev body : Option (List logic.Row)
      body = body_from limit os t (empty os ∷ []) (map meaning (literals here))

      -- putting a body's rows and going on, or all at once
      regroup : (o : Option (List logic.Row)) → and_then (and_then o (put_rows limit held)) (λ next. bodies_from limit os t next (rules_left (i + 1))) ≡ and_then o (λ rows. and_then (put_rows limit held rows) (λ next. bodies_from limit os t next (rules_left (i + 1))))
      regroup (Some rows) = refl
      regroup None = refl

      next_bodies : (o : Option (List logic.Row)) → o ≡ and_then body (put_rows limit held) → and_then o (λ next. bodies_from limit os t next (rules_left (i + 1))) ≡ bodies_from limit os t held (rules_left i)
      unfolding bodies_from
      next_bodies o q = ap (λ x. and_then x (λ next. bodies_from limit os t next (rules_left (i + 1)))) q ∙ regroup body ∙ sym (ap (bodies_from limit os t held) (split ∙ cond-true _ _ _ same))

      pub bodies_more : (next : List logic.Row) → Some next ≡ and_then body (put_rows limit held) → bodies_from limit os t next (rules_left (i + 1)) ≡ bodies_from limit os t held (rules_left i)
      bodies_more next q = next_bodies (Some next) q

      pub bodies_stop : None ≡ and_then body (put_rows limit held) → None ≡ bodies_from limit os t held (rules_left i)
      bodies_stop q = next_bodies None q

-- rows of code that are put one after another
pub put_lists : (limit room : ℕ) (held rows : List Row) (o : Option (List Row)) → room ≡ limit → o ≡ kept_all inside sooner room held rows → option_map as_lists o ≡ put_rows limit (as_lists held) (as_lists rows)
put_lists limit room held rows o same p = ap (option_map as_lists) p ∙ choices_kept room held rows ∙ ap (λ n. put_rows n (as_lists held) (as_lists rows)) same
