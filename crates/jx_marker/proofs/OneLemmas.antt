-- One place spells one segment.
use Rattle.std.proofs.Common.{◌≡◌, ℕ, List, ◌++◌, refl, length, drop, ap, sym, ◌∙◌, Some, None}
use Rattle.std.proofs.lemmas.List.{drop_at}
use Rattle.jx_marker.specs.declared.Segment.{Segment}
use Rattle.jx_marker.specs.declared.Rule.{Rule}
use Rattle.jx_marker.specs.declared.Rule.TheVariants as answer
use Rattle.jx_marker.specs.Segments.{spelling, segment_at, size_at}
use Rattle.jx_marker.specs.Rules.{first_broken}
use Rattle.jx_marker.specs.Laws.{StandsAt}
use Rattle.jx_marker.specs.Ranges.{InRange}
use Rattle.jx_marker.proofs.SpelledLemmas.{segment_is_read}

pub at_most_one : (comps : ℕ) (first second : Segment) (after rest : List ℕ) → InRange comps first → InRange comps second
    → spelling comps first ++ after ≡ spelling comps second ++ rest → (first ≡ second) × (after ≡ rest)
at_most_one comps first second after rest range other same =
    let left = segment_is_read comps first after range in
    let right = segment_is_read comps second rest other in
    let one : first ≡ second = sym left.value ∙ ap (segment_at comps) same ∙ right.value in
    let size : length (spelling comps second) ≡ length (spelling comps first) = ap (λ (s : Segment). length (spelling comps s)) (sym one) in (
      one,
      sym (drop_at (spelling comps first) after (length (spelling comps first)) refl) ∙ ap (drop (length (spelling comps first))) same
          ∙ drop_at (spelling comps second) rest (length (spelling comps first)) size,
    )

-- what stands at a place is what is spelled there
pub one_found : (comps : ℕ) (bytes : List ℕ) (found segment : Segment) (size : ℕ) (rest : List ℕ) → StandsAt comps bytes found size → InRange comps segment
    → bytes ≡ spelling comps segment ++ rest → (found ≡ segment) × (size ≡ length (spelling comps segment))
one_found comps bytes found segment size rest stands range same =
    let read = segment_is_read comps segment rest range in
    (sym stands.value ∙ ap (segment_at comps) same ∙ read.value, sym stands.takes ∙ ap size_at same ∙ read.takes)

-- no rule is violated where a segment is spelled
pub spelled_unbroken : (comps : ℕ) (bytes : List ℕ) (segment : Segment) (rest : List ℕ) (m : ℕ) → InRange comps segment
    → bytes ≡ spelling comps segment ++ rest → first_broken comps bytes ≡ Some m → ⊥
spelled_unbroken comps bytes segment rest m range same broken =
    let none : first_broken comps bytes ≡ None = ap (first_broken comps) same ∙ (segment_is_read comps segment rest range).rules in
    cc

-- what is no violated rule is want of memory
pub only_memory : (rule : Rule) → ((m : ℕ) → rule ≡ answer.Broken m → ⊥) → rule ≡ answer.NoMemory
only_memory answer.NoMemory h = refl
only_memory (answer.Broken m) h = absurd (h m refl)
