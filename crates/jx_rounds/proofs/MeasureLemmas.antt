-- The lengths of all tile-parts, and all of them held in memory.
use Rattle.std.proofs.Common.{◌≡◌, ◌∙◌, ◌≤◌, ℕ, List, [], ap, arith, sym, subst, Option, Some, IfSome, refl}
use Rattle.std.proofs.lemmas.Option.{same_Some}
use Rattle.jx_io.specs.Causes.{Rose}
use Rattle.jx_codestream.specs.First.{tile_number}
use Rattle.jx_plan.specs.Plan.{Plan}
use Rattle.jx_tier2_writer.specs.declared.index.PartLength.{PartLength}
use Rattle.jx_rounds.specs.Heads.{AreMeasured, IsHeld, IsUnmeasured}
use Rattle.jx_rounds.specs.Rounds.{HasRounds, IsUnwritten}
use Rattle.jx_rounds.specs.Sent.{bytes_sent, lengths_behind, lengths_sent}
use Rattle.jx_rounds.specs.Taken.{followed_by}
use Rattle.jx_rounds.specs.declared.halt.Halt.{Halt}
use Rattle.jx_rounds.specs.declared.halt.Halt.TheVariants as halt
use Rattle.jx_rounds.proofs.FrontLemmas.{front_none}
use Rattle.jx_rounds.proofs.WriteLemmas.{spoiled_of}

never_rose : Rose 0 0 → ⊥
never_rose rose = let le : 1 ≤ 0 = rose in omega (arith, le)

pub unmeasured : (p : Plan) (h : Halt) (old new : Option (List ℕ)) → (h ≡ halt.Failed → Rose 0 0) → IsUnwritten p 0 h old new → IsUnmeasured p h
unmeasured p (halt.Bad tile number) old new cause spoiled = spoiled_of p (halt.Bad tile number) tile old new spoiled
unmeasured p (halt.TooLong tile) old new cause spoiled = spoiled_of p (halt.TooLong tile) tile old new spoiled
unmeasured p halt.Failed old new cause cut = never_rose (cause refl)
unmeasured p halt.NoMemory old new cause cut = tt

module _ (p : Plan) (n k : ℕ) (old new : Option (List ℕ)) (from to : Option (List PartLength)) (rounds : HasRounds p 0 (tile_number p.stream.siz) n k old new from to) where
  pub measured_of : (lengths : List PartLength) → from ≡ Some [] → IfSome to (λ l. lengths ≡ l) → AreMeasured p lengths
  measured_of lengths none is =
      let all : to ≡ Some (lengths_sent rounds.more) = rounds.measured ∙ ap (lengths_behind rounds.more) none in
      record { sent = rounds.more; front = rounds.lead [] (front_none p); lengths_are = subst (λ (t : Option (List PartLength)). IfSome t (λ l. lengths ≡ l)) all is }

  pub held_of : (bytes : List ℕ) → old ≡ Some [] → new ≡ Some bytes → IsHeld p bytes
  held_of bytes none is =
      let all : new ≡ Some (bytes_sent rounds.more) = rounds.written ∙ ap (followed_by (bytes_sent rounds.more)) none in
      record { sent = rounds.more; front = rounds.lead [] (front_none p); bytes_are = same_Some bytes (bytes_sent rounds.more) (sym is ∙ all) }
