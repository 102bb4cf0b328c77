-- Explanations of a literal.
use Rattle.std.specs.Prelude.{Bool, List}
use Rattle.logic.specs.Options.{Row, Options}
use Rattle.logic.specs.Minimals.{MinimalOf, Forces, FullExplanation}
use Rattle.logic.specs.Rules.{Literal, Rule, true_in, truth}

-- the truth of a literal in a world
abbrev pub holds : List Rule → Row → Literal → Bool
holds rules w l = true_in w (truth rules w) l

-- r is well-formed, and the goal holds in every world that contains it
abbrev pub Explains : Options → List Rule → Literal → Row → Type 0
Explains os rules goal = Forces os (λ w. holds rules w goal)

abbrev pub MinimalExplanation : Options → List Rule → Literal → Row → Type 0
MinimalExplanation os rules goal = MinimalOf (Explains os rules goal)

-- the rows are the minimal explanations of the goal, each once, in order
abbrev pub Explained : Options → List Rule → Literal → List Row → Type 0
Explained os rules goal = FullExplanation os (λ w. holds rules w goal)
