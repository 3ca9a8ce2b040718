-- What has been written of a file, step by step.
use Rattle.std.proofs.Common.{◌≡◌, ◌∙◌, ◌<◌, ◌≤◌, ◌+◌, ℕ, List, Option, [], ◌∷◌, ◌++◌, length, refl, ap, sym, subst, arith, inl, inr, append_assoc, append-nil, length-append, Result, Ok, Err, IfErr, OnErr, IsErrOf}
use Rattle.std.specs.List.{concat}
use Rattle.std.proofs.lemmas.Bool.{cases_lt}
use Rattle.jx_marker.specs.Codes.{EOC}
use Rattle.jx_marker.specs.Segments.{spelling}
use Rattle.jx_marker.specs.declared.Segment.TheVariants as segment
use Rattle.jx_io.specs.Causes.{HasCause, Rose}
use Rattle.jx_io.specs.declared.refused.Refused.{Refused}
use Rattle.jx_io.specs.declared.refused.Refused.TheVariants as refused
use Rattle.jx_codestream.specs.First.{tile_number}
use Rattle.jx_plan.specs.Plan.{Plan}
use Rattle.jx_tier2_writer.specs.declared.index.PartLength.{PartLength}
use Rattle.jx_rounds.specs.Heads.{IsHeld}
use Rattle.jx_rounds.specs.MadeRounds.{parts_of}
use Rattle.jx_rounds.specs.Halts.{halt_of}
use Rattle.jx_rounds.specs.Sent.{bytes_sent, lengths_behind, sent_from}
use Rattle.jx_rounds.specs.Taken.{SomeFront, followed_by}
use Rattle.jx_rounds.specs.Rounds.{BeginsRound, EndsRound, HasFront, HasRounds, HasWhole, IsCutAfter, IsFault, IsHalted, IsHaltedByFault, IsHaltedTile, IsPlace, IsRoundFront, IsSpoiledAfter, IsSpoiledTile, IsUnmade, IsUnwritten, IsWholeFile, LeadOn}
use Rattle.jx_rounds.specs.declared.halt.Halt.{Halt}
use Rattle.jx_rounds.specs.declared.halt.Halt.TheVariants as halt
use Rattle.jx_rounds.proofs.FrontLemmas.{front_none, lead_next, lead_none, round_none}
use Rattle.jx_rounds.proofs.SentLemmas.{behind_both, behind_none, both_sent, tiles_sent}
use Rattle.jx_rounds.proofs.TakenLemmas.{all_front, both_written, front_of_later, has_taken_none, no_front, nothing_written}
use Rattle.jx_rounds.proofs.TakenLemmas.{front_after as taken_front}

-- ---- one round
pub cut_none : (p : Plan) (start : ℕ) (w : Option (List ℕ)) → start < tile_number p.stream.siz → BeginsRound p start → IsCutAfter p start w w
cut_none p start w inside begins = record { more = []; next = start; lead = lead_none p start; inside = omega arith; ends = inl begins; some = no_front w [] }

pub unmade_unwritten : (p : Plan) (start : ℕ) (h : Halt) (w : Option (List ℕ)) → start < tile_number p.stream.siz → BeginsRound p start → IsUnmade p start h → IsUnwritten p start h w w
unmade_unwritten p start (halt.Bad tile number) w inside begins spoiled = record { more = []; from = start; lead = lead_none p start; written = nothing_written w; spoiled = spoiled }
unmade_unwritten p start (halt.TooLong tile) w inside begins spoiled = record { more = []; from = start; lead = lead_none p start; written = nothing_written w; spoiled = spoiled }
unmade_unwritten p start halt.Failed w inside begins never = absurd never
unmade_unwritten p start halt.NoMemory w inside begins free = cut_none p start w inside begins

cut_in : (p : Plan) (start next block : ℕ) (tiles : List (List (List (List ℕ)))) (old new : Option (List ℕ)) → IsPlace p next block → EndsRound p next → LeadOn p start next (sent_from start tiles)
    → SomeFront old new (concat (parts_of tiles)) → IsCutAfter p start old new
cut_in p start next block tiles old new place ends lead some = record {
  more = sent_from start tiles;
  next = next;
  lead = lead;
  inside = place.inside;
  ends = ends;
  some = subst (SomeFront old new) (sym (tiles_sent start tiles)) some;
}

pub cut_round : (p : Plan) (start next block : ℕ) (tiles : List (List (List (List ℕ)))) (h : Halt) (old new : Option (List ℕ)) → IsPlace p next block → EndsRound p next → LeadOn p start next (sent_from start tiles)
    → IsFault h → SomeFront old new (concat (parts_of tiles)) → IsUnwritten p start h old new
cut_round p start next block tiles (halt.Bad tile number) old new place ends lead never some = absurd never
cut_round p start next block tiles (halt.TooLong tile) old new place ends lead never some = absurd never
cut_round p start next block tiles halt.Failed old new place ends lead fault some = cut_in p start next block tiles old new place ends lead some
cut_round p start next block tiles halt.NoMemory old new place ends lead fault some = cut_in p start next block tiles old new place ends lead some

pub round_written : (p : Plan) (start next before count : ℕ) (tiles : List (List (List (List ℕ)))) (old new : Option (List ℕ)) (from to : Option (List PartLength)) → LeadOn p start next (sent_from start tiles)
    → new ≡ followed_by (concat (parts_of tiles)) old → count ≡ before + length (concat (parts_of tiles)) → to ≡ lengths_behind (sent_from start tiles) from → HasRounds p start next before count old new from to
round_written p start next before count tiles old new from to lead wrote counted measured = record {
  more = sent_from start tiles;
  lead = lead;
  written = wrote ∙ ap (λ (b : List ℕ). followed_by b old) (sym (tiles_sent start tiles));
  count_is = counted ∙ ap (λ (b : List ℕ). before + length b) (sym (tiles_sent start tiles));
  measured = measured;
}

-- ---- rounds, one after another
pub rounds_none : (p : Plan) (header : ℕ) (w : Option (List ℕ)) (lengths : Option (List PartLength)) → HasRounds p 0 0 header header w w lengths lengths
rounds_none p header w lengths = record { more = []; lead = lead_none p 0; written = nothing_written w; count_is = omega arith; measured = behind_none lengths }

pub rounds_then : (p : Plan) (a b c n k l : ℕ) (old now new : Option (List ℕ)) (from at to : Option (List PartLength)) → HasRounds p a b n k old now from at → HasRounds p b c k l now new at to
    → HasRounds p a c n l old new from to
rounds_then p a b c n k l old now new from at to first later = record {
  more = first.more ++ later.more;
  lead = lead_next p a b c first.more later.more first.lead later.lead;
  written = both_written old now new (bytes_sent (first.more ++ later.more)) (bytes_sent first.more) (bytes_sent later.more) (both_sent first.more later.more) first.written later.written;
  count_is = omega (arith, first.count_is, later.count_is, ap (λ (x : List ℕ). length x) (both_sent first.more later.more), length-append (bytes_sent first.more) (bytes_sent later.more));
  measured = behind_both first.more later.more from at to first.measured later.measured;
}

pub rounds_all : (p : Plan) (tile tiles block n k : ℕ) (old new : Option (List ℕ)) (from to : Option (List PartLength)) → IsPlace p tile block → tiles ≡ tile_number p.stream.siz → tiles ≤ tile
    → HasRounds p 0 tile n k old new from to → HasRounds p 0 (tile_number p.stream.siz) n k old new from to
rounds_all p tile tiles block n k old new from to place is all rounds =
    let same : tile ≡ tile_number p.stream.siz = omega (arith, place.inside, is, all) in
    subst (λ (t : ℕ). HasRounds p 0 t n k old new from to) same rounds

spoiled_after : (p : Plan) (mid n k : ℕ) (h : Halt) (tile : ℕ) (old now new : Option (List ℕ)) (from to : Option (List PartLength)) → HasRounds p 0 mid n k old now from to → IsSpoiledAfter p mid h tile now new
    → IsSpoiledAfter p 0 h tile old new
spoiled_after p mid n k h tile old now new from to first later = record {
  more = first.more ++ later.more;
  from = later.from;
  lead = lead_next p 0 mid later.from first.more later.more first.lead later.lead;
  written = both_written old now new (bytes_sent (first.more ++ later.more)) (bytes_sent first.more) (bytes_sent later.more) (both_sent first.more later.more) first.written later.written;
  spoiled = later.spoiled;
}

cut_later : (p : Plan) (mid n k : ℕ) (old now new : Option (List ℕ)) (from to : Option (List PartLength)) → HasRounds p 0 mid n k old now from to → IsCutAfter p mid now new → IsCutAfter p 0 old new
cut_later p mid n k old now new from to first later = record {
  more = first.more ++ later.more;
  next = later.next;
  lead = lead_next p 0 mid later.next first.more later.more first.lead later.lead;
  inside = later.inside;
  ends = later.ends;
  some = front_of_later old now new (bytes_sent (first.more ++ later.more)) (bytes_sent first.more) (bytes_sent later.more) (both_sent first.more later.more) first.written later.some;
}

pub unwritten_after : (p : Plan) (mid n k : ℕ) (h : Halt) (old now new : Option (List ℕ)) (from to : Option (List PartLength)) → HasRounds p 0 mid n k old now from to → IsUnwritten p mid h now new
    → IsUnwritten p 0 h old new
unwritten_after p mid n k (halt.Bad tile number) old now new from to first later = spoiled_after p mid n k (halt.Bad tile number) tile old now new from to first later
unwritten_after p mid n k (halt.TooLong tile) old now new from to first later = spoiled_after p mid n k (halt.TooLong tile) tile old now new from to first later
unwritten_after p mid n k halt.Failed old now new from to first later = cut_later p mid n k old now new from to first later
unwritten_after p mid n k halt.NoMemory old now new from to first later = cut_later p mid n k old now new from to first later

pub begins_at : (p : Plan) (tile : ℕ) → EndsRound p tile → tile < tile_number p.stream.siz → BeginsRound p tile
begins_at p tile (inl begins) inside = begins
begins_at p tile (inr past) inside = absurd (omega (arith, past, inside))

pub first_place : (p : Plan) → IsPlace p 0 0
first_place p = record { inside = omega arith; block_is = refl }

pub first_ends : (p : Plan) → EndsRound p 0
first_ends p = inl (round_none p)

-- ---- after a head
head_alone : (p : Plan) (head : List ℕ) → IsRoundFront p head head
head_alone p head = record { tiles = 0; inside = omega arith; sent = []; front = front_none p; ends = first_ends p; bytes_are = sym (append-nil head) }

pub head_cut : (p : Plan) (head : List ℕ) (h : Halt) (old new : Option (List ℕ)) → IsFault h → SomeFront old new head → IsHalted p head h old new
head_cut p head (halt.Bad tile number) old new never some = absurd never
head_cut p head (halt.TooLong tile) old new never some = absurd never
head_cut p head halt.Failed old new fault some = record { bytes = head; of = inl (head_alone p head); some = some }
head_cut p head halt.NoMemory old new fault some = record { bytes = head; of = inl (head_alone p head); some = some }

pub front_after : (p : Plan) (head : List ℕ) (tile bytes : ℕ) (old now new : Option (List ℕ)) (from to : Option (List PartLength)) → now ≡ followed_by head old
    → HasRounds p 0 tile (length head) bytes now new from to → HasFront p head tile bytes old new
front_after p head tile bytes old now new from to wrote rounds = record {
  sent = rounds.more;
  front = rounds.lead [] (front_none p);
  written = both_written old now new (head ++ bytes_sent rounds.more) head (bytes_sent rounds.more) refl wrote rounds.written;
  count_is = omega (arith, rounds.count_is, length-append head (bytes_sent rounds.more));
}

cut_after_head : (p : Plan) (head : List ℕ) (old now new : Option (List ℕ)) → now ≡ followed_by head old → IsCutAfter p 0 now new → IsHaltedByFault p head old new
cut_after_head p head old now new wrote cut = record {
  bytes = head ++ bytes_sent cut.more;
  of = inl (record { tiles = cut.next; inside = cut.inside; sent = cut.more; front = cut.lead [] (front_none p); ends = cut.ends; bytes_are = refl });
  some = front_of_later old now new (head ++ bytes_sent cut.more) head (bytes_sent cut.more) refl wrote cut.some;
}

pub spoiled_of : (p : Plan) (h : Halt) (tile : ℕ) (old new : Option (List ℕ)) → IsSpoiledAfter p 0 h tile old new → IsSpoiledTile p h tile
spoiled_of p h tile old new after = record { inside = after.spoiled.inside; spoiled = after.spoiled.spoiled; below = after.spoiled.below after.more (after.lead [] (front_none p)) }

spoiled_after_head : (p : Plan) (head : List ℕ) (h : Halt) (tile : ℕ) (old now new : Option (List ℕ)) → now ≡ followed_by head old → IsSpoiledAfter p 0 h tile now new → IsHaltedTile p head h tile old new
spoiled_after_head p head h tile old now new wrote after = record {
  bytes = head ++ bytes_sent after.more;
  is = record {
    of = spoiled_of p h tile now new after;
    start = after.from;
    sent = after.more;
    front = after.lead [] (front_none p);
    bytes_are = refl;
    round = after.spoiled.round;
  };
  written = both_written old now new (head ++ bytes_sent after.more) head (bytes_sent after.more) refl wrote after.written;
}

pub halted_after : (p : Plan) (head : List ℕ) (h : Halt) (old now new : Option (List ℕ)) → now ≡ followed_by head old → IsUnwritten p 0 h now new → IsHalted p head h old new
halted_after p head (halt.Bad tile number) old now new wrote after = spoiled_after_head p head (halt.Bad tile number) tile old now new wrote after
halted_after p head (halt.TooLong tile) old now new wrote after = spoiled_after_head p head (halt.TooLong tile) tile old now new wrote after
halted_after p head halt.Failed old now new wrote cut = cut_after_head p head old now new wrote cut
halted_after p head halt.NoMemory old now new wrote cut = cut_after_head p head old now new wrote cut

-- ---- EOC
whole_file : (p : Plan) (head : List ℕ) (count : ℕ) (old now : Option (List ℕ)) (front : HasFront p head (tile_number p.stream.siz) count old now)
    → IsWholeFile p head ((head ++ bytes_sent front.sent) ++ spelling 1 segment.Eoc)
whole_file p head count old now front = record { sent = front.sent; tiles = front.front; bytes_are = refl }

pub uncounted : (p : Plan) (head : List ℕ) (count : ℕ) (old now : Option (List ℕ)) → HasFront p head (tile_number p.stream.siz) count old now → IsHaltedByFault p head old now
uncounted p head count old now front = record {
  bytes = head ++ bytes_sent front.sent;
  of = inl (record { tiles = tile_number p.stream.siz; inside = omega arith; sent = front.sent; front = front.front; ends = inr refl; bytes_are = refl });
  some = all_front old now (head ++ bytes_sent front.sent) front.written;
}

eoc_begun : (p : Plan) (head : List ℕ) (count : ℕ) (old now new : Option (List ℕ)) → HasFront p head (tile_number p.stream.siz) count old now → SomeFront now new (0xFF ∷ EOC ∷ []) → IsHaltedByFault p head old new
eoc_begun p head count old now new front some =
    let front_bytes : List ℕ = head ++ bytes_sent front.sent in
    record {
      bytes = front_bytes ++ spelling 1 segment.Eoc;
      of = inr (whole_file p head count old now front);
      some = front_of_later old now new (front_bytes ++ spelling 1 segment.Eoc) front_bytes (spelling 1 segment.Eoc) refl front.written some;
    }

pub eoc_cut : (p : Plan) (head : List ℕ) (count : ℕ) (h : Halt) (old now new : Option (List ℕ)) → HasFront p head (tile_number p.stream.siz) count old now → IsFault h → SomeFront now new (0xFF ∷ EOC ∷ [])
    → IsHalted p head h old new
eoc_cut p head count (halt.Bad tile number) old now new front never some = absurd never
eoc_cut p head count (halt.TooLong tile) old now new front never some = absurd never
eoc_cut p head count halt.Failed old now new front fault some = eoc_begun p head count old now new front some
eoc_cut p head count halt.NoMemory old now new front fault some = eoc_begun p head count old now new front some

pub whole_written : (p : Plan) (head : List ℕ) (before bytes : ℕ) (old now new : Option (List ℕ)) → HasFront p head (tile_number p.stream.siz) before old now → bytes ≡ before + 2
    → new ≡ followed_by (0xFF ∷ EOC ∷ []) now → HasWhole p head bytes old new
whole_written p head before bytes old now new front counted wrote =
    let front_bytes : List ℕ = head ++ bytes_sent front.sent in
    record {
      bytes = front_bytes ++ spelling 1 segment.Eoc;
      whole = whole_file p head before old now front;
      written = both_written old now new (front_bytes ++ spelling 1 segment.Eoc) front_bytes (spelling 1 segment.Eoc) refl front.written wrote;
      count_is = omega (arith, counted, front.count_is, length-append front_bytes (spelling 1 segment.Eoc));
    }

-- ---- tile-parts that are held in memory
pub held_front : (p : Plan) (head held : List ℕ) (count : ℕ) (old now new : Option (List ℕ)) → IsHeld p held → now ≡ followed_by head old → new ≡ followed_by held now → count ≡ length head + length held
    → HasFront p head (tile_number p.stream.siz) count old new
held_front p head held count old now new is wrote later counted = record {
  sent = is.sent;
  front = is.front;
  written = both_written old now new (head ++ bytes_sent is.sent) head (bytes_sent is.sent) refl wrote (later ∙ ap (λ (b : List ℕ). followed_by b now) is.bytes_are);
  count_is = omega (arith, counted, ap (λ (b : List ℕ). length b) is.bytes_are, length-append head (bytes_sent is.sent));
}

held_whole : (p : Plan) (head held : List ℕ) → IsHeld p held → IsWholeFile p head (head ++ (held ++ spelling 1 segment.Eoc))
held_whole p head held is = record {
  sent = is.sent;
  tiles = is.front;
  bytes_are = ap (λ (b : List ℕ). head ++ (b ++ spelling 1 segment.Eoc)) is.bytes_are ∙ sym (append_assoc head (bytes_sent is.sent) (spelling 1 segment.Eoc));
}

pub held_head_cut : (p : Plan) (head held : List ℕ) (old new : Option (List ℕ)) → IsHeld p held → SomeFront old new head → IsHaltedByFault p head old new
held_head_cut p head held old new is some = record {
  bytes = head ++ (held ++ spelling 1 segment.Eoc);
  of = inr (held_whole p head held is);
  some = taken_front old old new (head ++ (held ++ spelling 1 segment.Eoc)) (head ++ (held ++ spelling 1 segment.Eoc)) head (held ++ spelling 1 segment.Eoc) (has_taken_none old _) refl some;
}

pub held_cut : (p : Plan) (head held : List ℕ) (old now new : Option (List ℕ)) → IsHeld p held → now ≡ followed_by head old → SomeFront now new held → IsHaltedByFault p head old new
held_cut p head held old now new is wrote some = record {
  bytes = head ++ (held ++ spelling 1 segment.Eoc);
  of = inr (held_whole p head held is);
  some = front_of_later old now new (head ++ (held ++ spelling 1 segment.Eoc)) head (held ++ spelling 1 segment.Eoc) refl wrote
      (taken_front now now new (held ++ spelling 1 segment.Eoc) (held ++ spelling 1 segment.Eoc) held (spelling 1 segment.Eoc) (has_taken_none now _) refl some);
}

pub fault_halted : (p : Plan) (head : List ℕ) (h : Halt) (old new : Option (List ℕ)) → IsFault h → IsHalted p head h old new → IsHaltedByFault p head old new
fault_halted p head (halt.Bad tile number) old new never halted = absurd never
fault_halted p head (halt.TooLong tile) old new never halted = absurd never
fault_halted p head halt.Failed old new fault halted = halted
fault_halted p head halt.NoMemory old new fault halted = halted

halted_fault : (p : Plan) (head : List ℕ) (h : Halt) (old new : Option (List ℕ)) → IsFault h → IsHaltedByFault p head old new → IsHalted p head h old new
halted_fault p head (halt.Bad tile number) old new never cut = absurd never
halted_fault p head (halt.TooLong tile) old new never cut = absurd never
halted_fault p head halt.Failed old new fault cut = cut
halted_fault p head halt.NoMemory old new fault cut = cut

pub held_halted : {T : Type 0} (r : Result T Halt) (p : Plan) (head : List ℕ) (old new : Option (List ℕ)) → OnErr r (IsHaltedByFault p head old new) → IfErr r (λ h. IsFault h)
    → IfErr r (λ h. IsHalted p head h old new)
held_halted (Ok x) p head old new cut fault = tt
held_halted (Err h) p head old new cut fault = halted_fault p head h old new fault cut

-- ---- a call that was refused
pub halt_fault : (h : Halt) (e : Refused) → h ≡ halt_of e → IsFault h
halt_fault h refused.Failed is = rw is tt
halt_fault h refused.NoMemory is = rw is tt

-- ---- a call that wasn't refused
pub unrisen : {T : Type 0} (before now : ℕ) (x : T) → HasCause before now (Ok x) → now ≡ before
unrisen before now x cause = elim (cases_lt before now) [
  | inl rose ↦ let e = cause.rose rose in absurd (cc)
  | inr ge ↦ omega (arith, ge, cause.later)
]

-- ---- one that was
pub refused_cause : {T U : Type 0} (before now : ℕ) (h : Halt) (e : Refused) → h ≡ halt_of e → HasCause {T = T} before now (Err e) → IsErrOf {T = U} (Err h) halt.Failed → Rose before now
refused_cause before now h refused.Failed is cause failed = cause.failed refl
refused_cause before now h refused.NoMemory is cause failed = absurd (cc)

pub refused_rose : {T U : Type 0} (before now : ℕ) (h : Halt) (e : Refused) → h ≡ halt_of e → HasCause {T = T} before now (Err e) → before < now → IsErrOf {T = U} (Err h) halt.Failed
refused_rose before now h refused.Failed is cause rose = ap (λ (x : Halt). Err x) is
refused_rose before now h refused.NoMemory is cause rose = let e = cause.rose rose in absurd (cc)

pub same_err : {T U : Type 0} (h k : Halt) → IsErrOf {T = T} (Err h) k → IsErrOf {T = U} (Err h) k
same_err h k e = let is : h ≡ k = cc in ap (λ (x : Halt). Err x) is

pub on_fault : {T : Type 0} (r : Result T Halt) (P : Halt → Type 0) (X : Type 0) → IfErr r P → IfErr r (λ h. IsFault h) → ((h : Halt) → P h → IsFault h → X) → OnErr r X
on_fault (Ok x) P X is fault then_x = tt
on_fault (Err h) P X is fault then_x = then_x h is fault
