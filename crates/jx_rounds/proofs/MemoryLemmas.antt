-- A codestream that is written to memory.
use Rattle.std.proofs.Common.{◌≡◌, ◌∙◌, ℕ, List, [], Option, Some, ap, refl, subst}
use Rattle.jx_plan.specs.Plan.{Plan}
use Rattle.jx_rounds.specs.Heads.{IsCodestreamOf, IsHead, IsUnmeasured}
use Rattle.jx_rounds.specs.Rounds.{HasWhole, IsHalted, IsWholeFile}
use Rattle.jx_rounds.specs.Taken.{followed_by}
use Rattle.jx_rounds.specs.declared.halt.Halt.{Halt}
use Rattle.jx_rounds.specs.declared.halt.Halt.TheVariants as halt

same_bytes : (a b : List ℕ) → ◌≡◌ {A = Option (List ℕ)} (Some a) (Some b) → b ≡ a
same_bytes a b e = cc

pub memory_made : (p : Plan) (head : List ℕ) (count : ℕ) (bytes : List ℕ) (old new : Option (List ℕ)) → old ≡ Some [] → IsHead p head → HasWhole p head count old new → Some bytes ≡ new → IsCodestreamOf p bytes
memory_made p head count bytes old new none is whole made = record {
  head = head;
  is = is;
  whole = subst (IsWholeFile p head) (same_bytes bytes whole.bytes (made ∙ whole.written ∙ ap (followed_by whole.bytes) none)) whole.whole;
}

pub memory_halted : (p : Plan) (head : List ℕ) (h : Halt) (old new : Option (List ℕ)) → IsHalted p head h old new → (h ≡ halt.Failed → ⊥) → IsUnmeasured p h
memory_halted p head (halt.Bad tile number) old new is other = is.is.of
memory_halted p head (halt.TooLong tile) old new is other = is.is.of
memory_halted p head halt.Failed old new is other = absurd (other refl)
memory_halted p head halt.NoMemory old new is other = tt
