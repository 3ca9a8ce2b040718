use Rattle.std.proofs.Common.{◌≡◌, ◌+◌, ◌-◌, ◌<◌, ℕ, slice_index, List, arith, drop, subst, ap, ap₂, inl, inr, Ok, Err, Some}
use Rattle.std.proofs.lemmas.List.{drop-drop}
use Rattle.jx_marker.specs.declared.Segment.{Segment}
use Rattle.jx_marker.specs.declared.Rule.{Rule}
use Rattle.jx_marker.specs.declared.Rule.TheVariants as answer
use Rattle.jx_marker.specs.Rules.{first_broken}
use Rattle.jx_marker.proofs.OneLemmas.{one_found, spelled_unbroken, only_memory}
use Rattle.jx_marker.specs.Laws.{StandsAt, BeginsWith}
use Rattle.jx_marker.proofs.CutLemmas.{bytes_drop}
use Rattle.jx_marker.proofs.ReadLemmas.{begins, bytes_are}
use Rattle.jx_marker.proofs.read.read_segment.Goals as goal

pub returns-in-Ok-clause-found : goal.returns-in-Ok-clause-found
returns-in-Ok-clause-found c =
    let P : List ℕ → Type 0 = λ b. StandsAt c.args.comps b c.in-Ok.segment c.in-Ok.size in
    let e : c.args.at + c.in-Ok.size - c.args.at ≡ c.in-Ok.size = omega arith in
    rw e (subst P c.split_at.ensures.back c.in-Ok.ensures.found)

pub returns-in-Ok-clause-spelled : goal.returns-in-Ok-clause-spelled
returns-in-Ok-clause-spelled c =
    let rest : List ℕ = drop c.args.at c.args.bytes.now in
    let P : List ℕ → Type 0 = λ b. StandsAt c.args.comps b c.in-Ok.segment c.in-Ok.size in
    let Q : List ℕ → Type 0 = λ b. BeginsWith c.args.comps rest c.in-Ok.segment b in
    let small : (i : ℕ) → slice_index c.args.bytes.now i < 256 = λ i. omega (arith, c.type_inv.bytes i) in
    let are = bytes_drop c.args.bytes.now c.args.at (bytes_are c.args.bytes.now small) in
    subst Q (drop-drop c.in-Ok.size c.args.at c.args.bytes.now)
    (begins c.args.comps rest c.in-Ok.segment c.in-Ok.size are (subst P c.split_at.ensures.back c.in-Ok.ensures.found))

pub returns-in-Ok-clause-one : goal.returns-in-Ok-clause-one
returns-in-Ok-clause-one c = λ segment rest range same.
    let P : List ℕ → Type 0 = λ b. StandsAt c.args.comps b c.in-Ok.segment c.in-Ok.size in
    let here = subst P c.split_at.ensures.back c.in-Ok.ensures.found in
    let one = one_found c.args.comps (drop c.args.at c.args.bytes.now) c.in-Ok.segment segment c.in-Ok.size rest here range same in
    inl (ap₂ (λ (s : Segment) (n : ℕ). Ok (s, c.args.at + n)) one.0 one.1)

pub returns-in-Err-clause-one : goal.returns-in-Err-clause-one
returns-in-Err-clause-one c = λ segment rest range same.
    let bytes : List ℕ = drop c.args.at c.args.bytes.now in
    let Q : List ℕ → Type 0 = λ b. (m : ℕ) → c.in-Err.rule ≡ answer.Broken m → first_broken c.args.comps b ≡ Some m in
    let broken : Q bytes = subst Q c.split_at.ensures.back (λ m is. c.in-Err.ensures.broken m (ap (λ (r : Rule). Err r) is)) in
    inr (ap (λ (r : Rule). Err r) (only_memory c.in-Err.rule (λ m is. spelled_unbroken c.args.comps bytes segment rest m range same (broken m is))))
