-- What stands after what left the files as they were, and inputs of which a front was read.
use Rattle.std.proofs.Common.{◌≡◌, ◌∙◌, ◌<◌, ◌≤◌, ◌+◌, min, ℕ, List, length, take, inl, inr, refl, ap, Option, Some, None, IfSome, arith}
use Rattle.std.proofs.lemmas.List.{take_all, length-take}
use Rattle.jx_io.specs.Device.{Meaning}
use Rattle.jx_cli.specs.Words.{Text}
use Rattle.jx_transcode.specs.Aims.{Aim}
use Rattle.jx_transcode.specs.declared.status.Status.{Status}
use Rattle.jx_transcode.specs.declared.status.Status.TheVariants as status
use Rattle.jx_rounds.specs.Files.{IsBegun, IsMade, IsStopped, IsUnfinished, IsUntouched}
use Rattle.jx_transcode.specs.Outcome.{IsCutShort, IsRefused, IsStoppedAt, IsStoppedByBlock, IsUnbegun, Leaves, LeavesBegun}

pub untouched_twice : (a b c : Meaning) → IsUntouched a b → IsUntouched b c → IsUntouched a c
untouched_twice a b c first next = record {
  holds = λ name. next.holds name ∙ first.holds name;
  making = next.making ∙ first.making;
  written = next.written ∙ first.written;
}

pub made_after : (name : Text) (bytes : List ℕ) (a b c : Meaning) → IsUntouched a b → IsMade name bytes b c → IsMade name bytes a c
made_after name bytes a b c first made = (made.0, untouched_twice a b made.0 first made.1, made.2)

pub stopped_after : (name : Text) (bytes : List ℕ) (a b c : Meaning) → IsUntouched a b → IsStopped name bytes b c → IsStopped name bytes a c
stopped_after name bytes a b c first stopped = (stopped.0, untouched_twice a b stopped.0 first stopped.1, stopped.2)

pub begun_after : (name : Text) (bytes : List ℕ) (a b c : Meaning) → IsUntouched a b → IsBegun name bytes b c → IsBegun name bytes a c
begun_after name bytes a b c first (inl same) = inl (untouched_twice a b c first same)
begun_after name bytes a b c first (inr (inl made)) = inr (inl (made.0, made.1, untouched_twice a b made.0 first made.2, made.3))
begun_after name bytes a b c first (inr (inr made)) = inr (inr (made_after name bytes a b c first made))

unfinished_after : (name : Text) (bytes : List ℕ) (a b c : Meaning) → IsUntouched a b → IsUnfinished name bytes b c → IsUnfinished name bytes a c
unfinished_after name bytes a b c first (inl same) = inl (untouched_twice a b c first same)
unfinished_after name bytes a b c first (inr made) = inr (made.0, made.1, untouched_twice a b made.0 first made.2, made.3)

stands_after : (name : Text) (aim : Aim) (input : List ℕ) (a b c : Meaning) → IsUntouched a b → LeavesBegun name aim input b c → LeavesBegun name aim input a c
stands_after name aim input a b c first (inl same) = inl (untouched_twice a b c first same)
stands_after name aim input a b c first (inr (inl front)) = inr (inl (front.0, front.1, unfinished_after name front.0 a b c first front.2))
stands_after name aim input a b c first (inr (inr whole)) = inr (inr (whole.0, whole.1, made_after name whole.0 a b c first whole.2))

unbegun_after : (aim : Aim) (a b c : Meaning) → IsUntouched a b → IsUnbegun aim b c → IsUnbegun aim a c
unbegun_after aim a b c first (asked, same) = (asked, untouched_twice a b c first same)

stopped_then : (name : Text) (aim : Aim) (input : List ℕ) (tile blocks : ℕ) (a b c : Meaning) → IsUntouched a b → IsStoppedAt name aim input tile blocks b c → IsStoppedAt name aim input tile blocks a c
stopped_then name aim input tile blocks a b c first next = record {
  stands = elim next.stands [
    | inl cut ↦ inl (cut.0, cut.1, stopped_after name cut.0 a b c first cut.2)
    | inr none ↦ inr (unbegun_after aim a b c first none)
  ];
  count = next.count;
}

blocked_then : (name : Text) (aim : Aim) (input : List ℕ) (number blocks : ℕ) (a b c : Meaning) → IsUntouched a b → IsStoppedByBlock name aim input number blocks b c
    → IsStoppedByBlock name aim input number blocks a c
blocked_then name aim input number blocks a b c first next = record {
  stands = elim next.stands [
    | inl cut ↦ inl (cut.0, cut.1, stopped_after name cut.0 a b c first cut.2)
    | inr none ↦ inr (unbegun_after aim a b c first none)
  ];
  count = next.count;
}

refused_after : (blocks : ℕ) (a b c : Meaning) → IsUntouched a b → IsRefused blocks b c → IsRefused blocks a c
refused_after blocks a b c first refused = (refused.0, untouched_twice a b c first refused.1)

pub cut_after : (name : Text) (aim : Aim) (input : List ℕ) (blocks : ℕ) (a b c : Meaning) → IsUntouched a b → IsCutShort name aim input blocks b c → IsCutShort name aim input blocks a c
cut_after name aim input blocks a b c first (inl refused) = inl (refused_after blocks a b c first refused)
cut_after name aim input blocks a b c first (inr (inl over)) =
    inr (inl (record { within = over.within; why = over.why; is = over.is; caused = over.caused; count = over.count; same = untouched_twice a b c first over.same }))
cut_after name aim input blocks a b c first (inr (inr (inl all))) =
    inr (inr (inl (record { within = all.within; number = all.number; place = all.place; is = all.is; count = all.count; same = untouched_twice a b c first all.same })))
cut_after name aim input blocks a b c first (inr (inr (inr begun))) =
    inr (inr (inr (record { within = begun.within; count = begun.count; stands = stands_after name aim input a b c first begun.stands })))

pub leaves_after : (name : Text) (aim : Aim) (input : List ℕ) (s : Status) (blocks bytes : ℕ) (a b c : Meaning) → IsUntouched a b → Leaves name aim input s blocks bytes b c
    → Leaves name aim input s blocks bytes a c
leaves_after name aim input status.Done blocks bytes a b c first next =
    record { out = next.out; is = next.is; made = made_after name next.out a b c first next.made; kept = next.kept; count = next.count; long = next.long }
leaves_after name aim input status.Words blocks bytes a b c first next = refused_after blocks a b c first next
leaves_after name aim input (status.Unlike how) blocks bytes a b c first next = absurd next
leaves_after name aim input (status.Rule number place) blocks bytes a b c first next = refused_after blocks a b c first next
leaves_after name aim input (status.Limit number found) blocks bytes a b c first next = (next.0, untouched_twice a b c first next.1)
leaves_after name aim input (status.Choice number place) blocks bytes a b c first (inl next) = inl (next.0, stopped_then name aim input place blocks a b c first next.1)
leaves_after name aim input (status.Choice number place) blocks bytes a b c first (inr next) = inr (next.0, next.1, untouched_twice a b c first next.2)
leaves_after name aim input (status.Block number) blocks bytes a b c first next = blocked_then name aim input number blocks a b c first next
leaves_after name aim input status.ReadFault blocks bytes a b c first next = refused_after blocks a b c first next
leaves_after name aim input status.WriteFault blocks bytes a b c first next = cut_after name aim input blocks a b c first next
leaves_after name aim input status.NoMemory blocks bytes a b c first next = cut_after name aim input blocks a b c first next

-- the whole of an input of which these bytes were read, where it is told
unfoldable pub whole : Option (List ℕ) → List ℕ → List ℕ
whole (Some bytes) read = bytes
whole None read = read

-- the bytes read are its front
abbrev pub IsFront : ℕ → Option (List ℕ) → List ℕ → Type 0
IsFront limit told read = IfSome told (λ bytes. read ≡ take (limit + 1) bytes)

pub told_whole : (told : Option (List ℕ)) (read : List ℕ) → IfSome told (λ bytes. whole told read ≡ bytes)
unfolding whole
told_whole (Some bytes) read = refl
told_whole None read = tt

-- a short front is the whole
pub short_told : (limit : ℕ) (told : Option (List ℕ)) (read : List ℕ) → IsFront limit told read → length read ≤ limit → IfSome told (λ bytes. read ≡ bytes)
short_told limit (Some bytes) read front short =
    let counted : length read ≡ min (limit + 1) (length bytes) = ap length front ∙ length-take (limit + 1) bytes in
    front ∙ take_all (limit + 1) bytes (omega (arith, counted, short))
short_told limit None read front short = tt

pub long_whole : (limit : ℕ) (told : Option (List ℕ)) (read : List ℕ) → IsFront limit told read → limit < length read → limit < length (whole told read)
unfolding whole
long_whole limit (Some bytes) read front long =
    let counted : length read ≡ min (limit + 1) (length bytes) = ap length front ∙ length-take (limit + 1) bytes in
    omega (arith, counted, long)
long_whole limit None read front long = long
