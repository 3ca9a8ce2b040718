-- An input has at most one verdict.
use Rattle.std.proofs.Common.{◌≡◌, ◌⊎◌, ◌≤◌, ◌<◌, ◌^◌, ◌∙◌, inl, inr, refl, sym, subst, ap, arith, List, ℕ, Option, None, Some, length}
use Rattle.std.proofs.lemmas.Bool.{cases_lt}
use Rattle.jx_base.specs.Limits.{most_bytes}
use Rattle.jx_base.specs.declared.pieces.Block.{Block}
use Rattle.jx_codestream.specs.declared.faults.StreamFault.{StreamFault}
use Rattle.jx_codestream.specs.declared.faults.StreamFault.TheVariants as fault
use Rattle.jx_codestream.specs.declared.Stream.{Stream}
use Rattle.jx_codestream.specs.First.{tile_number}
use Rattle.jx_codestream.specs.FirstViolated.{IsFirst}
use Rattle.jx_codestream.specs.Read.{IsRead}
use Rattle.jx_codestream.specs.Spells.{Spells, TilePart}
use Rattle.jx_tier2_reader.specs.Gathered.{IsBroken, IsGathered}
use Rattle.jx_tile.specs.Totals.{totals_fault}
use Rattle.jx_options.specs.declared.Marks.{Marks}
use Rattle.jx_plan.specs.declared.faults.PlanFault.{PlanFault}
use Rattle.jx_plan.specs.declared.faults.PlanFault.TheVariants as unplanned
use Rattle.jx_layers.specs.Rule.{Rule}
use Rattle.jx_plan.specs.Planned.{CanBePlannedBy, HasPlanCause, blocks_written, layers_of_rule}
use Rattle.jx_options.specs.Wanted.{Wanted}
use Rattle.jx_reduce.specs.Reduction.{blocks_left, stream_left}
use Rattle.jx_reduce.specs.Unreducible.{first_choice}
use Rattle.jx_reduce.specs.declared.faults.ReduceFault.{ReduceFault}
use Rattle.jx_reduce.specs.declared.faults.ReduceFault.TheVariants as unreduced
use Rattle.jx_tier2_writer.specs.Ready.{AreShort}
use Rattle.jx_tier2_writer.specs.TileParts.{AreTilePartsOf}
use Rattle.jx_transcode.specs.declared.status.Status.{Status}
use Rattle.jx_transcode.specs.declared.status.Status.TheVariants as status
use Rattle.jx_transcode.specs.Aims.{Aim, rule_in}
use Rattle.jx_transcode.specs.Judged.{BreaksTiles}
use Rattle.jx_transcode.specs.Outcome.{Verdict}
use Rattle.jx_transcode.specs.Rewritten.{CanBePlanned, IsBad, IsIrreducible, IsLong, IsRewritten, IsSpoiled, IsTooLongAt, IsUnplanned, Reads, ReadsLeft, headers_of}
use Rattle.jx_rounds.specs.Tiles.{IsRight, IsWrongAt}
use Rattle.jx_rounds.proofs.FrontLemmas.{tiles_stay}
use Rattle.jx_transcode.proofs.WrongLemmas.{one_wrong, right_in_all, right_or_wrong}

-- what the laws of the crates below say
pub record Laws : Type 0 where
  pub one_stream : (b : List ℕ) (one other : Stream) → Spells b one → Spells b other → one ≡ other
  pub read : (b : List ℕ) (f : StreamFault) (s : Stream) → IsFirst b f → IsRead b s → ⊥
  pub gathered : (b : List ℕ) (s : Stream) (blocks : List Block) (f : StreamFault) → IsRead b s → length b < 2 ^ 64 → totals_fault s ≡ None → IsGathered b s blocks → IsBroken b s f → ⊥
  pub one_blocks : (b : List ℕ) (s : Stream) (blocks others : List Block) → IsRead b s → length b < 2 ^ 64 → totals_fault s ≡ None → IsGathered b s blocks → IsGathered b s others → blocks ≡ others
  pub first : (b : List ℕ) (one other : StreamFault) → IsFirst b one → IsFirst b other → one ≡ other
  pub broken : (b : List ℕ) (s : Stream) (one other : StreamFault) → IsRead b s → length b < 2 ^ 64 → IsBroken b s one → IsBroken b s other → one ≡ other
  pub free : (s : Stream) (blocks : List Block) (w : Wanted) (o : Option Rule) (e : PlanFault) → CanBePlannedBy o s blocks w → HasPlanCause o s blocks w e → e ≡ unplanned.NoMemory
  pub cause : (s : Stream) (blocks : List Block) (w : Wanted) (o : Option Rule) (e f : PlanFault) → (e ≡ unplanned.NoMemory → ⊥) → (f ≡ unplanned.NoMemory → ⊥) → HasPlanCause o s blocks w e
      → HasPlanCause o s blocks w f → e ≡ f
  pub parts : (m : Marks) (s : Stream) (blocks : List Block) (t : ℕ) (xs ys : List TilePart) → AreTilePartsOf m s blocks t xs → AreTilePartsOf m s blocks t ys → xs ≡ ys

-- violated or passed first, in the headers or the tile data
abbrev Stops : List ℕ → StreamFault → Type 0
Stops input f = IsFirst input f ⊎ BreaksTiles input f

tile_once : Laws → (input : List ℕ) (f g : StreamFault) → length input ≤ most_bytes → BreaksTiles input f → BreaksTiles input g → f ≡ g
tile_once laws input f g short x y =
    let one : y.stream ≡ x.stream = laws.one_stream input y.stream x.stream y.read.spelled x.read.spelled in
    let broken : IsBroken input x.stream g = subst (λ (s : Stream). IsBroken input s g) one y.broken in
    laws.broken input x.stream f g x.read (omega (arith, short)) x.broken broken

stops_once : Laws → (input : List ℕ) (f g : StreamFault) → length input ≤ most_bytes → Stops input f → Stops input g → f ≡ g
stops_once laws input f g short (inl x) (inl y) = laws.first input f g x y
stops_once laws input f g short (inl x) (inr y) = absurd (laws.read input f y.stream x y.read)
stops_once laws input f g short (inr x) (inl y) = absurd (laws.read input g x.stream y x.read)
stops_once laws input f g short (inr x) (inr y) = tile_once laws input f g short x y

-- what is read whole stops nowhere, and is read in one way
pub reads_on : Laws → (input : List ℕ) (s : Stream) (blocks : List Block) (f : StreamFault) → length input ≤ most_bytes → Reads input s blocks → Stops input f → ⊥
reads_on laws input s blocks f short reads (inl first) = laws.read input f s first reads.read
reads_on laws input s blocks f short reads (inr breaks) =
    let one : breaks.stream ≡ s = laws.one_stream input breaks.stream s breaks.read.spelled reads.read.spelled in
    let broken : IsBroken input s f = subst (λ (x : Stream). IsBroken input x f) one breaks.broken in
    laws.gathered input s blocks f reads.read (omega (arith, short)) reads.totals reads.gathered broken

pub one_reading : Laws → (input : List ℕ) (s t : Stream) (blocks others : List Block) → length input ≤ most_bytes → Reads input s blocks → Reads input t others → (t ≡ s) × (others ≡ blocks)
one_reading laws input s t blocks others short reads again =
    let one : t ≡ s = laws.one_stream input t s again.read.spelled reads.read.spelled in
    let same : IsGathered input s others = subst (λ (x : Stream). IsGathered input x others) one again.gathered in
    (one, laws.one_blocks input s others blocks reads.read (omega (arith, short)) reads.totals same reads.gathered)

-- so does what is left of it
pub left_on : Laws → (aim : Aim) (input : List ℕ) (s : Stream) (blocks : List Block) (f : StreamFault) → length input ≤ most_bytes → ReadsLeft aim.reduce input s blocks → Stops input f → ⊥
left_on laws aim input s blocks f short left stops = reads_on laws input left.whole left.all f short left.reads stops

pub one_left : Laws → (d : ℕ) (input : List ℕ) (s t : Stream) (blocks others : List Block) → length input ≤ most_bytes → ReadsLeft d input s blocks → ReadsLeft d input t others → (t ≡ s) × (others ≡ blocks)
one_left laws d input s t blocks others short left again =
    let one = one_reading laws input left.whole again.whole left.all again.all short left.reads again.reads in (
      again.stream ∙ ap (λ (x : Stream). stream_left d x) one.0 ∙ sym left.stream,
      again.blocks_are ∙ ap (λ (x : Stream). blocks_left d x again.all) one.0 ∙ ap (λ (b : List Block). blocks_left d left.whole b) one.1 ∙ sym left.blocks_are,
    )

-- nothing or one choice is in the way of what is left
pub free_or_choice : (o : Option ReduceFault) (n p : ℕ) → o ≡ None → o ≡ Some (unreduced.Choice n p) → ⊥
free_or_choice o n p e f = cc

one_choice : (o : Option ReduceFault) (n p k q : ℕ) → o ≡ Some (unreduced.Choice n p) → o ≡ Some (unreduced.Choice k q) → status.Choice n p ≡ status.Choice k q
one_choice o n p k q e f = cc

-- an input that can be planned has one rule, and nothing is in the way of a plan by it
one_rule : (o : Option Rule) (r q : Rule) → o ≡ Some r → o ≡ Some q → r ≡ q
one_rule o r q e f = cc

can_by : (aim : Aim) (s : Stream) (blocks : List Block) → CanBePlanned aim s blocks → CanBePlannedBy (rule_in aim s blocks) s blocks aim.wanted
can_by aim s blocks can = subst (λ (o : Option Rule). CanBePlannedBy o s blocks aim.wanted) (sym can.is) can.free

can_or_caused : Laws → (aim : Aim) (s : Stream) (blocks : List Block) (e : PlanFault) → (e ≡ unplanned.NoMemory → ⊥) → CanBePlanned aim s blocks
    → HasPlanCause (rule_in aim s blocks) s blocks aim.wanted e → ⊥
can_or_caused laws aim s blocks e caused can cause = caused (laws.free s blocks aim.wanted (rule_in aim s blocks) e (can_by aim s blocks can) cause)

-- what an input that is planned comes to: its file, or the lowest tile that isn't written
record IsFine (w : Wanted) (r : Rule) (s : Stream) (blocks : List Block) : Type 0 where
  pub none : (t : ℕ) → t < tile_number s.siz → IsSpoiled w r s blocks t → ⊥

record IsSpoiledAt (w : Wanted) (r : Rule) (s : Stream) (blocks : List Block) (t : ℕ) : Type 0 where
  pub inside : t < tile_number s.siz
  pub is : IsSpoiled w r s blocks t
  pub lowest : (n : ℕ) → n < t → IsSpoiled w r s blocks n → ⊥

-- why it isn't written: a wrong block, or else its length
record IsBadAt (w : Wanted) (r : Rule) (s : Stream) (blocks : List Block) (t number : ℕ) : Type 0 where
  pub inside : t < tile_number s.siz
  pub is : IsWrongAt w s blocks t number
  pub lowest : (n : ℕ) → n < t → IsSpoiled w r s blocks n → ⊥

record IsLongAt (w : Wanted) (r : Rule) (s : Stream) (blocks : List Block) (t : ℕ) : Type 0 where
  pub inside : t < tile_number s.siz
  pub is : IsLong w r s blocks t
  pub lowest : (n : ℕ) → n < t → IsSpoiled w r s blocks n → ⊥

module _ (w : Wanted) (r : Rule) (s : Stream) (blocks : List Block) where
  short_or_long : Laws → (t : ℕ) (parts : List TilePart) → AreTilePartsOf w.marks (headers_of w r s blocks) (blocks_written w r s blocks) t parts → AreShort parts → IsLong w r s blocks t → ⊥
  short_or_long laws t parts are short long =
      long.long (subst AreShort (laws.parts w.marks (headers_of w r s blocks) (blocks_written w r s blocks) t parts long.parts are long.are) short)

  written_or_spoiled : Laws → (t : ℕ) (parts : List TilePart) → IsRight w s blocks t → AreTilePartsOf w.marks (headers_of w r s blocks) (blocks_written w r s blocks) t parts → AreShort parts
      → IsSpoiled w r s blocks t → ⊥
  written_or_spoiled laws t parts right are short (inl wrong) = right_or_wrong w s blocks t wrong.0 right wrong.1
  written_or_spoiled laws t parts right are short (inr long) = short_or_long laws t parts are short long

  spoiled_once : (t u : ℕ) → IsSpoiledAt w r s blocks t → IsSpoiledAt w r s blocks u → t ≡ u
  spoiled_once t u x y = elim (cases_lt t u) [
    | inl lt ↦ absurd (y.lowest t lt x.is)
    | inr ge ↦ elim (cases_lt u t) [
      | inl lt ↦ absurd (x.lowest u lt y.is)
      | inr le ↦ omega arith
    ]
  ]

  bad_spoiled : (t number : ℕ) → IsBadAt w r s blocks t number → IsSpoiledAt w r s blocks t
  bad_spoiled t number is = record { inside = is.inside; is = inl (number, is.is); lowest = is.lowest }

  long_spoiled : (t : ℕ) → IsLongAt w r s blocks t → IsSpoiledAt w r s blocks t
  long_spoiled t is = record { inside = is.inside; is = inr is.is; lowest = is.lowest }

  bad_once : (t u n k : ℕ) → IsBadAt w r s blocks t n → IsBadAt w r s blocks u k → n ≡ k
  bad_once t u n k x y =
      let same : t ≡ u = spoiled_once t u (bad_spoiled t n x) (bad_spoiled u k y) in
      one_wrong w s blocks u n k (subst (λ (i : ℕ). IsWrongAt w s blocks i n) same x.is) y.is

  bad_or_long : (t u n : ℕ) → IsBadAt w r s blocks t n → IsLongAt w r s blocks u → ⊥
  bad_or_long t u n x y =
      let same : t ≡ u = spoiled_once t u (bad_spoiled t n x) (long_spoiled u y) in
      right_or_wrong w s blocks u n y.is.right (subst (λ (i : ℕ). IsWrongAt w s blocks i n) same x.is)

fine_of : Laws → (aim : Aim) (input out : List ℕ) (is : IsRewritten aim input out) → IsFine aim.wanted is.can.by is.stream is.blocks
fine_of laws aim input out is = record {
  none = λ t lt spoiled.
      let there : t < tile_number (headers_of aim.wanted is.can.by is.stream is.blocks).siz =
      subst (λ (n : ℕ). t < n) (sym (tiles_stay aim.wanted (layers_of_rule is.can.by is.stream is.blocks) is.stream)) lt in
      written_or_spoiled aim.wanted is.can.by is.stream is.blocks laws t (is.output.parts t) (right_in_all aim.wanted is.stream is.blocks t is.right) (is.output.are t there) (is.short t lt) spoiled;
}

long_at : (aim : Aim) (input : List ℕ) (t : ℕ) (is : IsTooLongAt aim input t) → IsLongAt aim.wanted is.can.by is.stream is.blocks t
long_at aim input t is = record { inside = is.inside; is = is.is; lowest = is.lowest }

bad_at : (aim : Aim) (input : List ℕ) (number : ℕ) (is : IsBad aim input number) → IsBadAt aim.wanted is.can.by is.stream is.blocks is.tile number
bad_at aim input number is = record { inside = is.inside; is = is.is; lowest = is.lowest }

-- the status of a fault, and that of what is in the way of a plan
abbrev told : StreamFault → Status
told (fault.Rule number place) = status.Rule number place
told (fault.Limit number found) = status.Limit number found
told fault.NoMemory = status.NoMemory

abbrev told_of : PlanFault → Status
told_of (unplanned.Limit number found) = status.Limit number found
told_of (unplanned.Choice number place) = status.Choice number place
told_of unplanned.NoMemory = status.NoMemory

module _ (laws : Laws) (aim : Aim) (input : List ℕ) (short : length input ≤ most_bytes) where
  -- a tile of the stream that is read again is one of the stream that was read, and is written by the same rule
  module _ (s t : Stream) (blocks others : List Block) (reads : ReadsLeft aim.reduce input s blocks) (again : ReadsLeft aim.reduce input t others) (can : CanBePlanned aim s blocks) (too : CanBePlanned aim t others) where
    abbrev same : (t ≡ s) × (others ≡ blocks)
    same = one_left laws aim.reduce input s t blocks others short reads again

    same_rule : too.by ≡ can.by
    same_rule =
        let of_stream : rule_in aim t others ≡ rule_in aim s others = ap (λ (x : Stream). rule_in aim x others) same.0 in
        let of_blocks : rule_in aim s others ≡ rule_in aim s blocks = ap (λ (b : List Block). rule_in aim s b) same.1 in
        one_rule (rule_in aim s blocks) too.by can.by (sym (of_stream ∙ of_blocks) ∙ too.is) can.is

    -- what holds of these holds of those
    pub here : (P : Rule → Stream → List Block → Type 0) → P too.by t others → P can.by s blocks
    here P is =
        let of_rule : P can.by t others = subst (λ (r : Rule). P r t others) same_rule is in
        let of_stream : P can.by s others = subst (λ (x : Stream). P can.by x others) same.0 of_rule in
        subst (λ (b : List Block). P can.by s b) same.1 of_stream

    long_here : (u : ℕ) → IsLongAt aim.wanted too.by t others u → IsLongAt aim.wanted can.by s blocks u
    long_here u is = here (λ r x b. IsLongAt aim.wanted r x b u) is

    bad_here : (u n : ℕ) → IsBadAt aim.wanted too.by t others u n → IsBadAt aim.wanted can.by s blocks u n
    bad_here u n is = here (λ r x b. IsBadAt aim.wanted r x b u n) is

  too_long : (t u : ℕ) (x : IsTooLongAt aim input t) (y : IsTooLongAt aim input u) → IsLongAt aim.wanted x.can.by x.stream x.blocks u
  too_long t u x y = long_here x.stream y.stream x.blocks y.blocks x.reads y.reads x.can y.can u (long_at aim input u y)

  same_long : (t u : ℕ) → IsTooLongAt aim input t → IsTooLongAt aim input u → t ≡ u
  same_long t u x y =
      spoiled_once aim.wanted x.can.by x.stream x.blocks t u (long_spoiled aim.wanted x.can.by x.stream x.blocks t (long_at aim input t x))
      (long_spoiled aim.wanted x.can.by x.stream x.blocks u (too_long t u x y))

  same_bad : (n k : ℕ) → IsBad aim input n → IsBad aim input k → n ≡ k
  same_bad n k x y =
      bad_once aim.wanted x.can.by x.stream x.blocks x.tile y.tile n k (bad_at aim input n x)
      (bad_here x.stream y.stream x.blocks y.blocks x.reads y.reads x.can y.can y.tile k (bad_at aim input k y))

  one_spoils : (n t : ℕ) → IsBad aim input n → IsTooLongAt aim input t → ⊥
  one_spoils n t x y =
      bad_or_long aim.wanted x.can.by x.stream x.blocks x.tile t n (bad_at aim input n x)
      (long_here x.stream y.stream x.blocks y.blocks x.reads y.reads x.can y.can t (long_at aim input t y))

  fine_or_long : (out : List ℕ) (t : ℕ) → IsRewritten aim input out → IsTooLongAt aim input t → ⊥
  fine_or_long out t x y =
      let there : IsLongAt aim.wanted x.can.by x.stream x.blocks t = long_here x.stream y.stream x.blocks y.blocks x.reads y.reads x.can y.can t (long_at aim input t y) in
      (fine_of laws aim input out x).none t there.inside (inr there.is)

  fine_or_bad : (out : List ℕ) (n : ℕ) → IsRewritten aim input out → IsBad aim input n → ⊥
  fine_or_bad out n x y =
      let there : IsBadAt aim.wanted x.can.by x.stream x.blocks y.tile n = bad_here x.stream y.stream x.blocks y.blocks x.reads y.reads x.can y.can y.tile n (bad_at aim input n y) in
      (fine_of laws aim input out x).none y.tile there.inside (inl (n, there.is))

  -- the cause, of the stream that is read
  cause_here : (s : Stream) (blocks : List Block) (e : PlanFault) → ReadsLeft aim.reduce input s blocks → IsUnplanned aim input e → HasPlanCause (rule_in aim s blocks) s blocks aim.wanted e
  cause_here s blocks e reads is =
      let one = one_left laws aim.reduce input s is.stream blocks is.blocks short reads is.reads in
      let of_stream : HasPlanCause (rule_in aim s is.blocks) s is.blocks aim.wanted e =
      subst (λ (x : Stream). HasPlanCause (rule_in aim x is.blocks) x is.blocks aim.wanted e) one.0 is.cause in
      subst (λ (b : List Block). HasPlanCause (rule_in aim s b) s b aim.wanted e) one.1 of_stream

  never_caused : (s : Stream) (blocks : List Block) (e : PlanFault) → (e ≡ unplanned.NoMemory → ⊥) → ReadsLeft aim.reduce input s blocks → CanBePlanned aim s blocks → IsUnplanned aim input e → ⊥
  never_caused s blocks e caused reads can is = can_or_caused laws aim s blocks e caused can (cause_here s blocks e reads is)

  same_cause : (e f : PlanFault) → (e ≡ unplanned.NoMemory → ⊥) → (f ≡ unplanned.NoMemory → ⊥) → IsUnplanned aim input e → IsUnplanned aim input f → e ≡ f
  same_cause e f one other x y =
      laws.cause x.stream x.blocks aim.wanted (rule_in aim x.stream x.blocks) e f one other x.cause (cause_here x.stream x.blocks f x.reads y)

  -- what is left, and what is in its way
  choice_here : (s : Stream) (blocks : List Block) (n p : ℕ) → Reads input s blocks → IsIrreducible aim.reduce input n p → first_choice aim.reduce s ≡ Some (unreduced.Choice n p)
  choice_here s blocks n p reads is =
      let one = one_reading laws input s is.stream blocks is.blocks short reads is.reads in
      subst (λ (x : Stream). first_choice aim.reduce x ≡ Some (unreduced.Choice n p)) one.0 is.cause

  never_irreducible : (s : Stream) (blocks : List Block) (n p : ℕ) → ReadsLeft aim.reduce input s blocks → IsIrreducible aim.reduce input n p → ⊥
  never_irreducible s blocks n p left is = free_or_choice (first_choice aim.reduce left.whole) n p left.free (choice_here left.whole left.all n p left.reads is)

  same_irreducible : (n p k q : ℕ) → IsIrreducible aim.reduce input n p → IsIrreducible aim.reduce input k q → status.Choice n p ≡ status.Choice k q
  same_irreducible n p k q x y = one_choice (first_choice aim.reduce x.stream) n p k q x.cause (choice_here x.stream x.blocks k q x.reads y)

module _ (laws : Laws) (aim : Aim) (input : List ℕ) (few : aim.limit ≤ most_bytes) where
  -- the laws below speak of as many bytes as words can ask for
  near : length input ≤ aim.limit → length input ≤ most_bytes
  near within = omega (arith, within, few)

  -- what is read whole, and isn't kept from a plan, has no limit
  never_limit : (s : Stream) (blocks : List Block) (n q : ℕ) → length input ≤ aim.limit → ReadsLeft aim.reduce input s blocks → CanBePlanned aim s blocks → Verdict aim input (status.Limit n q) → ⊥
  never_limit s blocks n q short reads can (inl (inl x)) = omega (arith, x.0, short)
  never_limit s blocks n q short reads can (inl (inr x)) = left_on laws aim input s blocks (fault.Limit n q) (near short) reads x.1
  never_limit s blocks n q short reads can (inr x) = never_caused laws aim input (near short) s blocks (unplanned.Limit n q) (λ e. cc) reads can x.1

  two_limits : (n p k q : ℕ) → Verdict aim input (status.Limit n p) → Verdict aim input (status.Limit k q) → status.Limit n p ≡ status.Limit k q
  two_limits n p k q (inl (inl x)) (inl (inl y)) = rw (x.1, x.2, y.1, y.2) refl
  two_limits n p k q (inl (inl x)) (inl (inr y)) = absurd (omega (arith, x.0, y.0))
  two_limits n p k q (inl (inl x)) (inr y) = absurd (omega (arith, x.0, y.0))
  two_limits n p k q (inl (inr x)) (inl (inl y)) = absurd (omega (arith, x.0, y.0))
  two_limits n p k q (inl (inr x)) (inl (inr y)) = ap told (stops_once laws input (fault.Limit n p) (fault.Limit k q) (near x.0) x.1 y.1)
  two_limits n p k q (inl (inr x)) (inr y) = absurd (left_on laws aim input y.1.stream y.1.blocks (fault.Limit n p) (near y.0) y.1.reads x.1)
  two_limits n p k q (inr x) (inl (inl y)) = absurd (omega (arith, x.0, y.0))
  two_limits n p k q (inr x) (inl (inr y)) = absurd (left_on laws aim input x.1.stream x.1.blocks (fault.Limit k q) (near x.0) x.1.reads y.1)
  two_limits n p k q (inr x) (inr y) = ap told_of (same_cause laws aim input (near x.0) (unplanned.Limit n p) (unplanned.Limit k q) (λ e. cc) (λ e. cc) x.1 y.1)

  rule_and_limit : (n p k q : ℕ) → Verdict aim input (status.Rule n p) → Verdict aim input (status.Limit k q) → ⊥
  rule_and_limit n p k q x (inl (inl y)) = omega (arith, y.0, x.0)
  rule_and_limit n p k q x (inl (inr y)) = let e : fault.Rule n p ≡ fault.Limit k q = stops_once laws input (fault.Rule n p) (fault.Limit k q) (near x.0) x.1 y.1 in cc
  rule_and_limit n p k q x (inr y) = left_on laws aim input y.1.stream y.1.blocks (fault.Rule n p) (near y.0) y.1.reads x.1

  done_and_choice : (n p : ℕ) → Verdict aim input status.Done → Verdict aim input (status.Choice n p) → ⊥
  done_and_choice n p x (short, inl y) = fine_or_long laws aim input (near short) x.1 p x.2 y.1
  done_and_choice n p x (short, inr (inl y)) = never_caused laws aim input (near short) x.2.stream x.2.blocks (unplanned.Choice n p) (λ e. cc) x.2.reads x.2.can y
  done_and_choice n p x (short, inr (inr y)) = never_irreducible laws aim input (near short) x.2.stream x.2.blocks n p x.2.reads y

  rule_and_choice : (n p k q : ℕ) → Verdict aim input (status.Rule n p) → Verdict aim input (status.Choice k q) → ⊥
  rule_and_choice n p k q x (short, inl y) = left_on laws aim input y.1.stream y.1.blocks (fault.Rule n p) (near short) y.1.reads x.1
  rule_and_choice n p k q x (short, inr (inl y)) = left_on laws aim input y.stream y.blocks (fault.Rule n p) (near short) y.reads x.1
  rule_and_choice n p k q x (short, inr (inr y)) = reads_on laws input y.stream y.blocks (fault.Rule n p) (near short) y.reads x.1

  unplanned_and_limit : (n p k q : ℕ) → length input ≤ aim.limit → IsUnplanned aim input (unplanned.Choice n p) → Verdict aim input (status.Limit k q) → ⊥
  unplanned_and_limit n p k q short x (inl (inl y)) = omega (arith, y.0, short)
  unplanned_and_limit n p k q short x (inl (inr y)) = left_on laws aim input x.stream x.blocks (fault.Limit k q) (near short) x.reads y.1
  unplanned_and_limit n p k q short x (inr y) =
      let e : unplanned.Choice n p ≡ unplanned.Limit k q = same_cause laws aim input (near short) (unplanned.Choice n p) (unplanned.Limit k q) (λ e. cc) (λ e. cc) x y.1 in cc

  irreducible_and_limit : (n p k q : ℕ) → length input ≤ aim.limit → IsIrreducible aim.reduce input n p → Verdict aim input (status.Limit k q) → ⊥
  irreducible_and_limit n p k q short x (inl (inl y)) = omega (arith, y.0, short)
  irreducible_and_limit n p k q short x (inl (inr y)) = reads_on laws input x.stream x.blocks (fault.Limit k q) (near short) x.reads y.1
  irreducible_and_limit n p k q short x (inr y) = never_irreducible laws aim input (near short) y.1.stream y.1.blocks n p y.1.reads x

  choice_and_limit : (n p k q : ℕ) → Verdict aim input (status.Choice n p) → Verdict aim input (status.Limit k q) → ⊥
  choice_and_limit n p k q (short, inl x) y = never_limit x.1.stream x.1.blocks k q short x.1.reads x.1.can y
  choice_and_limit n p k q (short, inr (inl x)) y = unplanned_and_limit n p k q short x y
  choice_and_limit n p k q (short, inr (inr x)) y = irreducible_and_limit n p k q short x y

  two_choices : (n p k q : ℕ) → Verdict aim input (status.Choice n p) → Verdict aim input (status.Choice k q) → status.Choice n p ≡ status.Choice k q
  two_choices n p k q (short, inl x) (again, inl y) = rw (x.0, y.0, same_long laws aim input (near short) p q x.1 y.1) refl
  two_choices n p k q (short, inl x) (again, inr (inl y)) = absurd (never_caused laws aim input (near short) x.1.stream x.1.blocks (unplanned.Choice k q) (λ e. cc) x.1.reads x.1.can y)
  two_choices n p k q (short, inl x) (again, inr (inr y)) = absurd (never_irreducible laws aim input (near short) x.1.stream x.1.blocks k q x.1.reads y)
  two_choices n p k q (short, inr (inl x)) (again, inl y) = absurd (never_caused laws aim input (near short) y.1.stream y.1.blocks (unplanned.Choice n p) (λ e. cc) y.1.reads y.1.can x)
  two_choices n p k q (short, inr (inl x)) (again, inr (inl y)) = ap told_of (same_cause laws aim input (near short) (unplanned.Choice n p) (unplanned.Choice k q) (λ e. cc) (λ e. cc) x y)
  two_choices n p k q (short, inr (inl x)) (again, inr (inr y)) = absurd (never_irreducible laws aim input (near short) x.stream x.blocks k q x.reads y)
  two_choices n p k q (short, inr (inr x)) (again, inl y) = absurd (never_irreducible laws aim input (near short) y.1.stream y.1.blocks n p y.1.reads x)
  two_choices n p k q (short, inr (inr x)) (again, inr (inl y)) = absurd (never_irreducible laws aim input (near short) y.stream y.blocks n p y.reads x)
  two_choices n p k q (short, inr (inr x)) (again, inr (inr y)) = same_irreducible laws aim input (near short) n p k q x y

  bad_and_choice : (k n p : ℕ) → Verdict aim input (status.Block k) → Verdict aim input (status.Choice n p) → ⊥
  bad_and_choice k n p x (short, inl y) = one_spoils laws aim input (near short) k p x.1 y.1
  bad_and_choice k n p x (short, inr (inl y)) = never_caused laws aim input (near short) x.1.stream x.1.blocks (unplanned.Choice n p) (λ e. cc) x.1.reads x.1.can y
  bad_and_choice k n p x (short, inr (inr y)) = never_irreducible laws aim input (near short) x.1.stream x.1.blocks n p x.1.reads y

  bad_and_rule : (k n p : ℕ) → Verdict aim input (status.Block k) → Verdict aim input (status.Rule n p) → ⊥
  bad_and_rule k n p x y = left_on laws aim input x.1.stream x.1.blocks (fault.Rule n p) (near x.0) x.1.reads y.1

  bad_and_limit : (k n p : ℕ) → Verdict aim input (status.Block k) → Verdict aim input (status.Limit n p) → ⊥
  bad_and_limit k n p x y = never_limit x.1.stream x.1.blocks n p x.0 x.1.reads x.1.can y

  bad_and_done : (k : ℕ) → Verdict aim input (status.Block k) → Verdict aim input status.Done → ⊥
  bad_and_done k x y = fine_or_bad laws aim input (near x.0) y.1 k y.2 x.1

  pub one_verdict : (s t : Status) → Verdict aim input s → Verdict aim input t → s ≡ t
  one_verdict status.Done status.Done x y = refl
  one_verdict status.Done (status.Rule n q) x y = absurd (left_on laws aim input x.2.stream x.2.blocks (fault.Rule n q) (near x.0) x.2.reads y.1)
  one_verdict status.Done (status.Limit n q) x y = absurd (never_limit x.2.stream x.2.blocks n q x.0 x.2.reads x.2.can y)
  one_verdict status.Done (status.Choice n q) x y = absurd (done_and_choice n q x y)
  one_verdict status.Done (status.Block k) x y = absurd (bad_and_done k y x)
  one_verdict status.Done status.Words x y = absurd y
  one_verdict status.Done (status.Unlike how) x y = absurd y
  one_verdict status.Done status.ReadFault x y = absurd y
  one_verdict status.Done status.WriteFault x y = absurd y
  one_verdict status.Done status.NoMemory x y = absurd y
  one_verdict (status.Rule n p) status.Done x y = absurd (left_on laws aim input y.2.stream y.2.blocks (fault.Rule n p) (near y.0) y.2.reads x.1)
  one_verdict (status.Rule n p) (status.Rule k q) x y = ap told (stops_once laws input (fault.Rule n p) (fault.Rule k q) (near x.0) x.1 y.1)
  one_verdict (status.Rule n p) (status.Limit k q) x y = absurd (rule_and_limit n p k q x y)
  one_verdict (status.Rule n p) (status.Choice k q) x y = absurd (rule_and_choice n p k q x y)
  one_verdict (status.Rule n p) (status.Block k) x y = absurd (bad_and_rule k n p y x)
  one_verdict (status.Rule n p) status.Words x y = absurd y
  one_verdict (status.Rule n p) (status.Unlike how) x y = absurd y
  one_verdict (status.Rule n p) status.ReadFault x y = absurd y
  one_verdict (status.Rule n p) status.WriteFault x y = absurd y
  one_verdict (status.Rule n p) status.NoMemory x y = absurd y
  one_verdict (status.Limit n p) status.Done x y = absurd (never_limit y.2.stream y.2.blocks n p y.0 y.2.reads y.2.can x)
  one_verdict (status.Limit n p) (status.Rule k q) x y = absurd (rule_and_limit k q n p y x)
  one_verdict (status.Limit n p) (status.Limit k q) x y = two_limits n p k q x y
  one_verdict (status.Limit n p) (status.Choice k q) x y = absurd (choice_and_limit k q n p y x)
  one_verdict (status.Limit n p) (status.Block k) x y = absurd (bad_and_limit k n p y x)
  one_verdict (status.Limit n p) status.Words x y = absurd y
  one_verdict (status.Limit n p) (status.Unlike how) x y = absurd y
  one_verdict (status.Limit n p) status.ReadFault x y = absurd y
  one_verdict (status.Limit n p) status.WriteFault x y = absurd y
  one_verdict (status.Limit n p) status.NoMemory x y = absurd y
  one_verdict (status.Choice n p) status.Done x y = absurd (done_and_choice n p y x)
  one_verdict (status.Choice n p) (status.Rule k q) x y = absurd (rule_and_choice k q n p y x)
  one_verdict (status.Choice n p) (status.Limit k q) x y = absurd (choice_and_limit n p k q x y)
  one_verdict (status.Choice n p) (status.Choice k q) x y = two_choices n p k q x y
  one_verdict (status.Choice n p) (status.Block k) x y = absurd (bad_and_choice k n p y x)
  one_verdict (status.Choice n p) status.Words x y = absurd y
  one_verdict (status.Choice n p) (status.Unlike how) x y = absurd y
  one_verdict (status.Choice n p) status.ReadFault x y = absurd y
  one_verdict (status.Choice n p) status.WriteFault x y = absurd y
  one_verdict (status.Choice n p) status.NoMemory x y = absurd y
  one_verdict (status.Block k) status.Done x y = absurd (bad_and_done k x y)
  one_verdict (status.Block k) (status.Rule n p) x y = absurd (bad_and_rule k n p x y)
  one_verdict (status.Block k) (status.Limit n p) x y = absurd (bad_and_limit k n p x y)
  one_verdict (status.Block k) (status.Choice n p) x y = absurd (bad_and_choice k n p x y)
  one_verdict (status.Block k) (status.Block n) x y = rw (same_bad laws aim input (near x.0) k n x.1 y.1) refl
  one_verdict (status.Block k) status.Words x y = absurd y
  one_verdict (status.Block k) (status.Unlike how) x y = absurd y
  one_verdict (status.Block k) status.ReadFault x y = absurd y
  one_verdict (status.Block k) status.WriteFault x y = absurd y
  one_verdict (status.Block k) status.NoMemory x y = absurd y
  one_verdict status.Words t x y = absurd x
  one_verdict (status.Unlike how) t x y = absurd x
  one_verdict status.ReadFault t x y = absurd x
  one_verdict status.WriteFault t x y = absurd x
  one_verdict status.NoMemory t x y = absurd x
