-- The segmentation symbol that ends a cleanup pass (ITU-T T.800, D.5): 1010 under the uniform label.
use Rattle.std.specs.Prelude.{Bool, true, false, ◌&&◌, not}
use Rattle.jx_tier1_specs.specs.declared.question.Question.{Question}
use Rattle.jx_tier1_specs.specs.declared.question.About.TheVariants.{Symbol}
use Rattle.jx_tier1_specs.specs.Asking.{Asking, Told, Ask}

abbrev pub symbol_bit : Bool → Question
symbol_bit bit = record { label = 18; turned = false; shift = 0; about = Symbol bit }

-- whether it is right
unfoldable pub symbol_asked : Asking Bool
symbol_asked =
    Ask (symbol_bit true) (λ a. Ask (symbol_bit false) (λ b. Ask (symbol_bit true) (λ c. Ask (symbol_bit false) (λ d.
    Told (a && not b && c && not d)))))
