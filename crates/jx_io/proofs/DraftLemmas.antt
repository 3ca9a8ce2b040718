-- Links that are followed one after another.
use Rattle.std.proofs.Common.{◌≡◌, List, [], ◌∷◌, ◌++◌, ℕ, refl, ap, ◌∙◌, sym}
use Rattle.std.specs.Path.{path_with_file_name}
use Rattle.jx_io.specs.Drafts.{IsLed, led}

led_push : (name link : List ℕ) (links : List (List ℕ)) → led name (links ++ link ∷ []) ≡ path_with_file_name (led name links) link
led_push name link [] = refl
led_push name link (x ∷ links) = led_push (path_with_file_name name x) link links

pub led_on : (name path link next : List ℕ) → IsLed name path → next ≡ path_with_file_name path link → IsLed name next
led_on name path link next is e = record {
  links = is.links ++ link ∷ [];
  target_is = e ∙ ap (λ (p : List ℕ). path_with_file_name p link) is.target_is ∙ sym (led_push name link is.links);
}
