-- What isn't in the way of a plan of a generated codestream, with the options of `make` and whatever rule of layers: choices 1 to 5,
-- limit 7, and wrong segmentation symbols.
use Rattle.std.proofs.Common.{◌≡◌, ◌∙◌, ◌⊎◌, ℕ, zero, suc, ◌+◌, ◌*◌, ◌^◌, ◌≤◌, ◌<◌, ◌&&◌, nat_le, Bool, true, false, List, [], ◌∷◌, length, map, take, drop, get_or, All, refl, subst, arith, inl, inr, Option, None, Some, if◌then◌else◌}
use Rattle.std.specs.Prelude.{is_some, slice_get}
use Rattle.std.specs.List.{AllByRecursion, AllPairs, Contains, range_with_len}
use Rattle.std.proofs.lemmas.List.FromFn.{length-range_with_len}
use Rattle.std.proofs.lemmas.List.Quantifiers.{position-Some}
use Rattle.std.proofs.lemmas.List.Sums.{count_by-le-length}
use Rattle.std.proofs.lemmas.Nat.{mul-le}
use Rattle.std.proofs.lemmas.Option.{get_or_from_slice_get, slice_get_within}
use Rattle.jx_base.specs.Limits.{most_bytes}
use Rattle.jx_base.specs.declared.pieces.Block.{Block}
use Rattle.jx_base.specs.declared.style.Style.{Style}
use Rattle.jx_base.specs.Passes.{has_symbols}
use Rattle.jx_base.specs.Sound.{IsSound}
use Rattle.jx_base.specs.Joined.{sum_below}
use Rattle.jx_geom.specs.Geometry.{Geometry, HasResolution, rect_of_tile}
use Rattle.jx_geom.specs.Counts.{tile_precincts}
use Rattle.jx_tier1_specs.specs.Reading.{Coding, Decoding, Reading, at_start, decoded, first_segment, fresh_reading, opened, read_bits, read_from, read_pass, read_symbol}
use Rattle.jx_tier1_specs.specs.Segments.{begins}
use Rattle.jx_base.specs.Passes.{raw_pass}
use Rattle.jx_marker.specs.declared.Progression.{Progression}
use Rattle.jx_progression.specs.declared.names.PacketName.{PacketName}
use Rattle.jx_progression.specs.Orders.{ComesBefore, order_of}
use Rattle.jx_progression.specs.Packets.{Sends}
use Rattle.jx_codestream.specs.declared.Stream.{Stream}
use Rattle.jx_codestream.specs.First.{tile_number}
use Rattle.jx_codestream.specs.Read.{IsRead}
use Rattle.jx_codestream.specs.Shapes.{geometry, shapes_in}
use Rattle.jx_tier2_reader.specs.BlockOf.{AreBlocksOf}
use Rattle.jx_tile.specs.Covered.{IsListOf}
use Rattle.jx_tier2_reader.specs.Gathered.{IsGathered}
use Rattle.jx_tile.specs.Totals.{packet_total, tile_packets, totals_fault}
use Rattle.jx_codeblock.specs.declared.LayerEnd.{LayerEnd}
use Rattle.jx_codeblock.specs.Recoding.{own_segments, wrong_in}
use Rattle.jx_codeblock.specs.Written.{is_wrong, style_for}
use Rattle.jx_plan.specs.Causal.{breaks_plane, first_broken}
use Rattle.jx_plan.specs.Crowded.{IsCrowdedBlock}
use Rattle.jx_plan.specs.Layers.{HasMany, ends_by, ends_of, passes_to}
use Rattle.jx_layers.specs.Rule.{Rule}
use Rattle.jx_plan.specs.declared.faults.PlanFault.{PlanFault}
use Rattle.jx_plan.specs.declared.faults.PlanFault.TheVariants as fault
use Rattle.jx_options.specs.declared.PartChoice.TheVariants as part
use Rattle.jx_plan.specs.Fits.{AreUnfit, Fits, IsUnfit}
use Rattle.jx_tile_parts.specs.Groups.{HasManyParts, groups_of}
use Rattle.jx_plan.specs.Headers.{stream_written}
use Rattle.jx_plan.specs.Plan.{MayBePlanned, headers_with, most_packets}
use Rattle.jx_plan.specs.Planned.{HasPlanCause, IsUnplannedBy, LacksPlan, MakesLayers, layers_of_rule}
use Rattle.jx_plan.specs.Causes.{IsLate, IsPlaneBroken}
use Rattle.jx_plan.specs.Standing.{HeadersStand}
use Rattle.jx_generate.specs.Headers.{AreSizes}
use Rattle.jx_generate.specs.Plain.{IsPlain}
use Rattle.jx_generate.specs.Reading.{stream_made}
use Rattle.jx_transcode.specs.MakeRun.{wanted_made}
use Rattle.jx_plan.specs.Profile.{unclaimed}
use Rattle.jx_plan.specs.Strays.{IsStray}
use Rattle.jx_plan.proofs.PlanLemmas.{none_placed}
use Rattle.jx_options.specs.Wanted.{MayBeWanted}

-- the resolution doesn't fall
abbrev Rises : PacketName → PacketName → Type 0
Rises p q = p.res ≤ q.res

-- what the laws of the crates below say of what may be planned, and of what is generated
pub record MadeLaws : Type 0 where
  pub may : (b : List ℕ) (s : Stream) (blocks : List Block) → IsRead b s → length b ≤ most_bytes → totals_fault s ≡ None → IsGathered b s blocks → MayBePlanned s blocks
  pub fit : (s : Stream) → HeadersStand s → Fits None s
  pub few : (names : List PacketName) (n : ℕ) → 1 ≤ n → AllPairs Rises names → ((p : PacketName) → Contains names p → p.res < n) → length (groups_of part.Resolution names) ≤ n
  pub plain : (w h size : ℕ) (blocks : List Block) → AreSizes w h → AreBlocksOf (stream_made w h size) blocks → All IsSound blocks → All IsPlain blocks
  pub tiles : (w h size : ℕ) → AreSizes w h → tile_number (stream_made w h size).siz ≡ 1
  pub precincts : (w h size : ℕ) → AreSizes w h → tile_precincts (rect_of_tile (geometry (stream_made w h size) 0)) (geometry (stream_made w h size) 0).shapes ≤ 18
  pub levels : (w h size c r : ℕ) → HasResolution (geometry (stream_made w h size) 0) c r → r ≤ 5

abbrev asked : Style
asked = record { bits = 33 }

-- ---- choice 1: neither style has the causal bit
same_bit : (b : Block) → b.style.bits ≡ 0 → breaks_plane (Some asked) b ≡ false
same_bit b e = rw e refl

unbroken : (blocks : List Block) (place : ℕ) → All IsPlain blocks → first_broken (Some asked) blocks ≡ Some place → ⊥
unbroken [] place plain e = absurd (cc)
unbroken (b ∷ blocks) place plain e =
    let at = position-Some (breaks_plane (Some asked)) (b ∷ blocks) place b e in
    let x : Block = get_or (b ∷ blocks) place b in
    let clear : breaks_plane (Some asked) x ≡ false = same_bit x (plain place b at.0).style in
    absurd (let t = at.1 in cc)

-- ---- choices 3 and 2: precincts are kept
not_unfit : (s : Stream) (number place : ℕ) → Fits None s → IsUnfit s None number place → ⊥
not_unfit s number place fits (inl above) = absurd (let e = fits.above in let f = above.1 in cc)
not_unfit s number place fits (inr changed) = changed.1.changed (fits.blocks place changed.1.inside)

-- ---- limit 7: 18 packets in each layer
one_of_sum : (f : ℕ → ℕ) (n : ℕ) → n ≡ 1 → sum_below f n ≡ f 0
one_of_sum f n e = rw e (omega arith)

headers_number : MadeLaws → (w h size layers : ℕ) → AreSizes w h → tile_number (headers_with wanted_made layers (stream_made w h size)).siz ≡ 1
unfolding stream_written stream_made
headers_number laws w h size layers sizes = laws.tiles w h size sizes

packets_own : (w h size layers : ℕ) → tile_packets (headers_with wanted_made layers (stream_made w h size)) 0
    ≡ tile_precincts (rect_of_tile (geometry (stream_made w h size) 0)) (geometry (stream_made w h size) 0).shapes * layers
unfolding shapes_in stream_written stream_made
packets_own w h size layers = refl

few_packets : MadeLaws → (w h size layers : ℕ) → AreSizes w h → layers < 2 ^ 16 → packet_total (headers_with wanted_made layers (stream_made w h size)) ≤ most_packets
unfolding packet_total
few_packets laws w h size layers sizes few =
    let s : Stream = headers_with wanted_made layers (stream_made w h size) in
    let g : Geometry = geometry (stream_made w h size) 0 in
    let one : packet_total s ≡ tile_packets s 0 = one_of_sum (tile_packets s) (tile_number s.siz) (headers_number laws w h size layers sizes) in
    let product : tile_precincts (rect_of_tile g) g.shapes * layers ≤ 18 * 65535 =
    mul-le (tile_precincts (rect_of_tile g) g.shapes) layers 18 65535 (laws.precincts w h size sizes) (omega (arith, few)) in
    omega (arith, one, packets_own w h size layers, product)

-- ---- choice 4: a block has at most 37 passes
each_few : (layer : ℕ → ℕ) (n : ℕ) (ls : List ℕ) → AllByRecursion (λ (e : LayerEnd). e.passes ≤ n) (map (λ (l : ℕ). record { layer = l; passes = passes_to layer n l }) ls)
each_few layer n [] = tt
each_few layer n (l ∷ ls) =
    (omega (arith, count_by-le-length (λ (pass : ℕ). nat_le (layer pass) l) (range_with_len 0 n), length-range_with_len 0 n), each_few layer n ls)

few_by : (layer : ℕ → ℕ) (n layers : ℕ) → AllByRecursion (λ (e : LayerEnd). e.passes ≤ n) (ends_by layer n layers)
unfolding ends_by
few_by layer n layers = each_few layer n _

not_many : (first n : ℕ) (ends : List LayerEnd) → n ≤ 164 → AllByRecursion (λ (e : LayerEnd). e.passes ≤ n) ends → HasMany first ends → ⊥
not_many first n [] few all many = many
not_many first n (e ∷ ends) few all (inl many) = omega (arith, all.0, many)
not_many first n (e ∷ ends) few all (inr later) = not_many e.passes n ends few all.1 later

not_crowded : (r : Rule) (layers : ℕ) (blocks : List Block) (number : ℕ) (o : Option Block) → All IsPlain blocks → slice_get blocks number ≡ o → IsCrowdedBlock r layers blocks number o → ⊥
not_crowded r layers blocks number None plain at crowded = crowded
not_crowded r layers blocks number (Some b) plain at crowded =
    let is : IsPlain b = subst IsPlain (get_or_from_slice_get blocks number b b at) (plain number b (slice_get_within blocks number b at)) in
    not_many 0 b.passes (ends_of r layers blocks number b) (omega (arith, is.few)) (few_by _ b.passes layers) crowded

-- ---- choice 5: in RPCL the resolutions rise, and there are 6
by_resolution : (g : Geometry) (p q : PacketName) → ComesBefore g (order_of 2) p q → Rises p q
by_resolution g p q (inl lt) = omega (arith, lt)
by_resolution g p q (inr more) = omega (arith, more.0)

pub headers_geometry : (w h size layers : ℕ) → geometry (headers_with wanted_made layers (stream_made w h size)) 0 ≡ geometry (stream_made w h size) 0
unfolding shapes_in stream_written stream_made
headers_geometry w h size layers = refl

-- the one entry of the headers that are written
abbrev pub entry_written : ℕ → Progression
entry_written layers = record { rs = 0; cs = 0; lye = layers; re = 33; ce = 0; order = 2 }

pub record IsSent (g : Geometry) (layers : ℕ) (names : List PacketName) : Type 0 where
  pub k : ℕ
  pub none : take k names ≡ []
  pub sends : Sends g layers (entry_written layers) (take k names) (drop k names)

pub one_entry : (w h size layers : ℕ) (names : List PacketName) → IsListOf (headers_with wanted_made layers (stream_made w h size)) 0 names
    → IsSent (geometry (headers_with wanted_made layers (stream_made w h size)) 0) layers names
unfolding stream_written stream_made
one_entry w h size layers names is = record { k = is.0; none = is.1; sends = is.2 }

sent_few : MadeLaws → (w h size layers : ℕ) (names : List PacketName) → IsSent (geometry (stream_made w h size) 0) layers names → length (groups_of part.Resolution names) ≤ 6
sent_few laws w h size layers names is =
    let g : Geometry = geometry (stream_made w h size) 0 in
    let list : List PacketName = drop is.k names in
    let whole : list ≡ names = all_left is.k names is.none in
    let sorted : AllPairs Rises list = λ i j d lt below. by_resolution g _ _ (is.sends.sorted i j d lt below) in
    let level : (p : PacketName) → Contains list p → p.res < 6 =
    λ p has. let le : p.res ≤ 5 = laws.levels w h size p.comp p.res ((is.sends.exact p).0 has).0.resolution in omega (arith, le) in
    subst (λ (xs : List PacketName). length (groups_of part.Resolution xs) ≤ 6) whole (laws.few list 6 (omega arith) sorted level)
  where
    all_left : (k : ℕ) (xs : List PacketName) → take k xs ≡ [] → drop k xs ≡ xs
    all_left zero xs e = refl
    all_left (suc k) [] e = refl
    all_left (suc k) (x ∷ xs) e = absurd (cc)

few_parts : MadeLaws → (w h size layers : ℕ) (names : List PacketName) → IsListOf (headers_with wanted_made layers (stream_made w h size)) 0 names → length (groups_of part.Resolution names) ≤ 6
few_parts laws w h size layers names is =
    let P : Geometry → Type 0 = λ g. IsSent g layers names in
    sent_few laws w h size layers names (subst P (headers_geometry w h size layers) (one_entry w h size layers names is))

not_parted : MadeLaws → (w h size layers t : ℕ) → AreSizes w h → t < tile_number (headers_with wanted_made layers (stream_made w h size)).siz
    → HasManyParts part.Resolution (headers_with wanted_made layers (stream_made w h size)) t → ⊥
not_parted laws w h size layers t sizes inside many =
    let s : Stream = headers_with wanted_made layers (stream_made w h size) in
    let first : t ≡ 0 = omega (arith, inside, headers_number laws w h size layers sizes) in
    let P : ℕ → Type 0 = λ n. IsListOf s n many.names in
    let few : length (groups_of part.Resolution many.names) ≤ 6 = few_parts laws w h size layers many.names (subst P first many.order) in
    omega (arith, few, many.many)

-- ---- why nothing is planned
module _ (laws : MadeLaws) (w h size : ℕ) (blocks : List Block) (sizes : AreSizes w h) (may : MayBePlanned (stream_made w h size) blocks) where
  abbrev own : Stream
  own = stream_made w h size

  plain : All IsPlain blocks
  plain = laws.plain w h size blocks sizes may.blocks_are may.sound

  -- no TLM is asked, and no profile claimed
  unclaimed_made : (layers place : ℕ) → unclaimed wanted_made.marks (headers_with wanted_made layers own) ≡ Some place → ⊥
  unfolding unclaimed stream_written
  unclaimed_made layers place e = absurd (cc)

  by_late : (layers number place : ℕ) → IsLate own wanted_made layers number place → ⊥
  by_late layers number place (inl five) = not_parted laws w h size layers place sizes five.1.many.inside five.1.many.many
  by_late layers number place (inr (inl ten)) = let asked : false ≡ true = ten.1.many.asked in absurd (cc)
  by_late layers number place (inr (inr eleven)) = unclaimed_made layers place eleven.1.first

  fits : Fits None own
  fits = laws.fit own may.headers

  -- no progression changes are asked
  may_want : MayBeWanted wanted_made
  may_want = record { order = omega arith; changes = inl refl; bytes = tt; style = record { few = omega arith; free = refl } }

  stray_made : (layers place : ℕ) → 1 ≤ layers → layers < 2 ^ 16 → IsStray own wanted_made layers place → ⊥
  stray_made layers place some few (inl outside) = let e : false ≡ true = outside.0 in absurd (cc)
  stray_made layers place some few (inr first) =
      first.1.stray ((none_placed wanted_made layers own (headers_with wanted_made layers own) may.headers may.range may_want fits some few refl refl).each place first.1.inside)

  by_rule : (r : Rule) (e : PlanFault) → MakesLayers (Some r) own blocks → (e ≡ fault.NoMemory → ⊥) → IsUnplannedBy r own blocks wanted_made e → ⊥
  by_rule r (fault.Choice number place) makes caused (inl twelve) = stray_made (layers_of_rule r own blocks) place makes.0 makes.1 twelve.1.stray
  by_rule r (fault.Choice number place) makes caused (inr (inl four)) = not_crowded r _ blocks place (slice_get blocks place) plain refl four.1.lowest.0
  by_rule r (fault.Choice number place) makes caused (inr (inr late)) = by_late (layers_of_rule r own blocks) number place late.cause
  by_rule r (fault.Limit number found) makes caused seven =
      let few = few_packets laws w h size _ sizes makes.1 in
      omega (arith, few, seven.1.count, seven.1.many)
  by_rule r fault.NoMemory makes caused is = caused refl

  -- choice 6, where there is no rule
  abbrev LacksRule : Option Rule → PlanFault → Type 0
  LacksRule rule e = (rule ≡ None) × (e ≡ fault.Choice 6 0)

  lacking : (rule : Option Rule) (e : PlanFault) → MakesLayers rule own blocks → (e ≡ fault.NoMemory → ⊥) → LacksPlan rule own blocks wanted_made e → LacksRule rule e
  lacking None e makes caused lacks = (refl, lacks.1)
  lacking (Some r) e makes caused lacks = absurd (by_rule r e makes caused lacks)

  unfit : (e : PlanFault) → (e ≡ fault.NoMemory → ⊥) → AreUnfit own None e → ⊥
  unfit (fault.Choice number place) caused is = not_unfit own number place fits is
  unfit (fault.Limit number found) caused is = is
  unfit fault.NoMemory caused is = caused refl

  broken : (e : PlanFault) → IsPlaneBroken (Some asked) blocks e → ⊥
  broken (fault.Choice number place) is = unbroken blocks place plain is.1
  broken (fault.Limit number found) is = is
  broken fault.NoMemory is = is

  pub only_rule : (rule : Option Rule) (e : PlanFault) → MakesLayers rule own blocks → (e ≡ fault.NoMemory → ⊥) → HasPlanCause rule own blocks wanted_made e → LacksRule rule e
  only_rule rule e makes caused (inl is) = absurd (broken e is)
  only_rule rule e makes caused (inr later) = after later.1
    where
      after : AreUnfit own None e ⊎ LacksPlan rule own blocks wanted_made e → LacksRule rule e
      after (inl is) = absurd (unfit e caused is)
      after (inr lacks) = lacking rule e makes caused lacks

-- ---- no segmentation symbol is read
opened_same : (style pass : ℕ) (d : Decoding) → (opened style pass d).wrong ≡ d.wrong
opened_same style pass d = by (begins style pass)
  where
    by : (b : Bool) → (if b then record d { reading = fresh_reading (raw_pass style pass) (first_segment d.rest) d.reading.contexts; rest = drop 1 d.rest } else d).wrong ≡ d.wrong
    by true = refl
    by false = refl

symbol_right : (style pass : ℕ) (r : Reading) → has_symbols style ≡ false → (read_symbol style pass r).0 ≡ true
symbol_right style pass r none = rw none refl

pass_right : (c : Coding) (pass : ℕ) (d : Decoding) → has_symbols c.style ≡ false → d.wrong ≡ None → (read_pass c pass d).wrong ≡ None
pass_right c pass d none right =
    let o : Decoding = opened c.style pass d in
    let e : o.wrong ≡ None = opened_same c.style pass d ∙ right in
    let t : (read_symbol c.style pass (read_bits c pass o).1).0 ≡ true = symbol_right c.style pass (read_bits c pass o).1 none in
    rw (e, t) refl

passes_right : (c : Coding) (n pass : ℕ) (d : Decoding) → has_symbols c.style ≡ false → d.wrong ≡ None → (read_from c n pass d).wrong ≡ None
unfolding read_from
passes_right c zero pass d none right = right
passes_right c (suc n) pass d none right = passes_right c n (pass + 1) (read_pass c pass d) none (pass_right c pass d none right)

block_right : (width height : ℕ) (c : Coding) (segments : List (List ℕ)) (n : ℕ) → has_symbols c.style ≡ false → (decoded width height c segments n).wrong ≡ None
unfolding decoded
block_right width height c segments n none = passes_right c n 0 (at_start width height segments) none refl

plain_symbols : (b : Block) → b.style.bits ≡ 0 → has_symbols b.style.bits ≡ false
plain_symbols b e = rw e refl

pub right_in : (b : Block) → IsPlain b → wrong_in b ≡ None
right_in b is = block_right _ _ _ (own_segments b) b.passes (plain_symbols b is.style)

pub never_wrong : (asked : Option Style) (b : Block) → IsPlain b → is_wrong asked b ≡ true → ⊥
never_wrong asked b is wrong =
    let right : wrong_in b ≡ None = right_in b is in
    absurd (by (is_some (style_for asked b)) (rw right at wrong))
  where
    by : (t : Bool) → (t && false) ≡ true → ⊥
    by true e = absurd (cc)
    by false e = absurd (cc)
