-- Headers that can't be read: exactly those of which no bits are read, or no end.
use Rattle.std.proofs.Common.{◌≡◌, ℕ, zero, suc, ◌+◌, ◌<◌, ◌≤◌, Bool, true, false, List, [], ◌∷◌, ◌++◌, length, refl, sym, ap, ◌∙◌, subst, arith, append_assoc, Ok, Err, Result, inl, inr, ◌⊎◌}
use Rattle.std.proofs.lemmas.List.{append_cancel_right}
use Rattle.jx_tagtree.specs.declared.BitFault.{BitFault}
use Rattle.jx_tagtree.specs.Header.{bits_of, end_after}
use Rattle.jx_packet_header.specs.declared.HeaderPart.{HeaderPart}
use Rattle.jx_packet_header.specs.declared.HeadFault.{HeadFault}
use Rattle.jx_packet_header.specs.declared.HeadFault.TheVariants.{Bits, Planes, NoMemory}
use Rattle.jx_packet_header.specs.Packet.{Cells, State, Values, Agree, Entry, entry_bits, entry_after, blocks_bits, blocks_after, AreEntries, parts_told, band_after, BandStands, Header, header_bits, header_after, header_parts, IsToldOf, IsPacket, BreaksPlanes}
use Rattle.jx_packet_header.specs.Kept.{AreTrees, AreBands}
use Rattle.jx_packet_header.specs.Said.{HasCause}
use Rattle.jx_packet_header.specs.Unread.{Stops, BandStops, BandsStop, HeaderStops, EndStops, BreaksBits, HasPacket}
use Rattle.jx_packet_header.specs.Scan.{and_then, Told, scan_block, AllTold, and_parts, scan_blocks, scan_band, BandsRead, and_band, scan_bands, HeaderRead, header_of, scan_header}
use Rattle.jx_packet_header.proofs.BlockLemmas.{BlockRead, block_made, block_read}
use Rattle.jx_packet_header.proofs.BandLemmas.{entry_agrees, block_of, block_kept, entry_kept, all_is, AreAllTrees, on_band, band_made, band_go}
use Rattle.jx_packet_header.proofs.PacketLemmas.{all_trees, header_is, header_made, header_read, header_over, header_breaks, packet_none}
use Rattle.jx_packet_header.proofs.StopBlockLemmas.{block_none, block_stop}
use Rattle.jx_packet_header.proofs.KindLemmas.{header_kind}

-- ---- the blocks of a band
abbrev next_blocks : ℕ → ℕ → ℕ → ℕ → ℕ → Told → Result AllTold HeadFault
next_blocks style layer base more leaf t = and_parts t.entry.parts (scan_blocks style layer base more (leaf + 1) t.cells t.rest)

blocks_stop : (v : Values) (style layer base stop at more leaf : ℕ) (cells : Cells) (es : List Entry) (behind : List Bool) → AreTrees cells → Agree cells v → stop ≡ length cells.blocks → leaf + more ≡ stop → at < stop →
    AreEntries v style layer base at leaf cells es → Stops v style layer (base + at) at (blocks_after v layer leaf cells es) behind →
    scan_blocks style layer base more leaf cells (blocks_bits v layer leaf cells es ++ behind) ≡ Err Bits
blocks_stop v style layer base stop at zero leaf cells [] behind t a all sum lt are stops = absurd (let e : leaf ≡ at = are in omega arith)
blocks_stop v style layer base stop at (suc more) leaf cells [] behind t a all sum lt are stops =
    let e : at ≡ leaf = sym are in
    let here : Stops v style layer (base + leaf) leaf cells behind = subst (λ (n : ℕ). Stops v style layer (base + n) n cells behind) e stops in
    let lt' : leaf < length cells.blocks = (let i : leaf < stop = omega arith in subst (λ (n : ℕ). leaf < n) all i) in
    ap (λ (r : Result Told HeadFault). and_then r (next_blocks style layer base more leaf)) (block_stop v style layer (base + leaf) leaf cells behind (block_of cells leaf t lt') a here)
blocks_stop v style layer base stop at zero leaf cells (e ∷ es) behind t a all sum lt are stops = absurd (let l : leaf < at = are.0 in omega arith)
blocks_stop v style layer base stop at (suc more) leaf cells (e ∷ es) behind t a all sum lt are stops =
    let lt' : leaf < length cells.blocks = (let l : leaf < at = are.0 in let i : leaf < stop = omega arith in subst (λ (n : ℕ). leaf < n) all i) in
    let next = entry_after v layer leaf cells e in
    let k = entry_kept v style layer (base + leaf) leaf cells e t lt' a are.1 in
    let b = block_of cells leaf t lt' in
    let front = blocks_bits v layer (leaf + 1) next es in
    ap (λ (q : List Bool). scan_blocks style layer base (suc more) leaf cells q) (append_assoc (entry_bits v layer leaf cells e) front behind)
    ∙ ap (λ (r : Result Told HeadFault). and_then r (next_blocks style layer base more leaf)) (block_made v style layer (base + leaf) leaf cells e (front ++ behind) b a are.1)
    ∙ ap (and_parts e.parts) (blocks_stop v style layer base stop at more (leaf + 1) next es behind k.trees (entry_agrees v layer leaf cells e b a) (all ∙ sym k.long) (omega arith) lt are.2 stops)

-- a band that isn't read has values
record SomeBlocksStop (style layer base stop leaf : ℕ) (cells : Cells) (bits : List Bool) : Type 0 where
  pub values : Values
  pub agree : Agree cells values
  pub at : ℕ
  pub inside : at < stop
  pub entries : List Entry
  pub are : AreEntries values style layer base at leaf cells entries
  pub behind : List Bool
  pub stands : bits ≡ blocks_bits values layer leaf cells entries ++ behind
  pub stops : Stops values style layer (base + at) at (blocks_after values layer leaf cells entries) behind
  pub from : leaf ≤ at

same_fault : (parts : List HeaderPart) (r : Result AllTold HeadFault) → and_parts parts r ≡ Err Bits → r ≡ Err Bits
same_fault parts (Err e) h = let is : e ≡ Bits = cc in ap (λ (x : HeadFault). let y : Result AllTold HeadFault = Err x in y) is
same_fault parts (Ok x) h = absurd cc

blocks_none : (style layer base stop more leaf : ℕ) (cells : Cells) (bits : List Bool) → AreTrees cells → stop ≡ length cells.blocks → leaf + more ≡ stop →
    scan_blocks style layer base more leaf cells bits ≡ Err Bits → SomeBlocksStop style layer base stop leaf cells bits
blocks_none style layer base stop zero leaf cells bits t all sum h = absurd cc
blocks_none style layer base stop (suc more) leaf cells bits t all sum h =
    by (λ (next : Cells) (rest : List Bool) (k : AreTrees next) (l : stop ≡ length next.blocks) (e : scan_blocks style layer base more (leaf + 1) next rest ≡ Err Bits).
    blocks_none style layer base stop more (leaf + 1) next rest k l (omega arith) e) (scan_block style layer (base + leaf) leaf cells bits) refl h
  where
    in_stop : leaf < stop
    in_stop = omega arith

    lt : leaf < length cells.blocks
    lt = subst (λ (n : ℕ). leaf < n) all in_stop

    join : (u : Told) → scan_block style layer (base + leaf) leaf cells bits ≡ Ok u → SomeBlocksStop style layer base stop (leaf + 1) u.cells u.rest → SomeBlocksStop style layer base stop leaf cells bits
    join u eq s =
        let v = s.values in
        let from : leaf + 1 ≤ s.at = s.from in
        let o : BlockRead v style layer (base + leaf) leaf cells bits u = block_read v style layer (base + leaf) leaf cells bits u (block_of cells leaf t lt) eq s.agree in
        let front = entry_bits v layer leaf cells u.entry in
        let next = entry_after v layer leaf cells u.entry in
        record {
          values = v;
          agree = o.before;
          at = s.at;
          inside = s.inside;
          entries = u.entry ∷ s.entries;
          are = ((let i : leaf < s.at = omega arith in i), o.is, subst (λ (c : Cells). AreEntries v style layer base s.at (leaf + 1) c s.entries) o.cells_are s.are);
          behind = s.behind;
          stands = o.bits_are ∙ ap (λ (q : List Bool). front ++ q) s.stands
              ∙ ap (λ (c : Cells). front ++ (blocks_bits v layer (leaf + 1) c s.entries ++ s.behind)) o.cells_are
              ∙ sym (append_assoc front (blocks_bits v layer (leaf + 1) next s.entries) s.behind);
          stops = subst (λ (c : Cells). Stops v style layer (base + s.at) s.at (blocks_after v layer (leaf + 1) c s.entries) s.behind) o.cells_are s.stops;
          from = omega arith;
        }

    by : ((next : Cells) (rest : List Bool) → AreTrees next → stop ≡ length next.blocks → scan_blocks style layer base more (leaf + 1) next rest ≡ Err Bits → SomeBlocksStop style layer base stop (leaf + 1) next rest) →
        (r : Result Told HeadFault) → scan_block style layer (base + leaf) leaf cells bits ≡ r → and_then r (next_blocks style layer base more leaf) ≡ Err Bits → SomeBlocksStop style layer base stop leaf cells bits
    by again (Err e) eq h =
        let is : e ≡ Bits = cc in
        let was : scan_block style layer (base + leaf) leaf cells bits ≡ Err Bits = eq ∙ ap (λ (x : HeadFault). let y : Result Told HeadFault = Err x in y) is in
        let s = block_none style layer (base + leaf) leaf cells bits (block_of cells leaf t lt) was in
        record { values = s.values; agree = s.agree; at = leaf; inside = in_stop; entries = []; are = refl; behind = bits; stands = refl; stops = s.stops; from = omega arith }
    by again (Ok u) eq h =
        let k = block_kept style layer (base + leaf) leaf cells bits u t lt eq in
        join u eq (again u.cells u.rest k.trees (all ∙ sym k.long) (same_fault u.entry.parts (scan_blocks style layer base more (leaf + 1) u.cells u.rest) h))

-- ---- bands
band_stop : (style layer base : ℕ) (cells : Cells) (bits : List Bool) → AreTrees cells → BandStops style layer base cells bits → scan_band style layer base cells bits ≡ Err Bits
unfolding scan_band
band_stop style layer base cells bits t b =
    let k = b.stops in
    ap (λ (q : List Bool). scan_blocks style layer base (length cells.blocks) 0 cells q) k.stands
    ∙ blocks_stop b.values style layer base (length cells.blocks) k.at (length cells.blocks) 0 cells k.entries k.behind t b.agree refl (omega arith) k.inside k.are k.stops

band_none : (style layer base : ℕ) (cells : Cells) (bits : List Bool) → AreTrees cells → scan_band style layer base cells bits ≡ Err Bits → BandStops style layer base cells bits
unfolding scan_band
band_none style layer base cells bits t h =
    let s = blocks_none style layer base (length cells.blocks) (length cells.blocks) 0 cells bits t refl (omega arith) h in
    record { values = s.values; agree = s.agree; stops = record { at = s.at; inside = s.inside; entries = s.entries; are = s.are; behind = s.behind; stands = s.stands; stops = s.stops } }

bands_stop : (style layer base : ℕ) (bands : List Cells) (bits : List Bool) → AreAllTrees bands → BandsStop style layer base bands bits → scan_bands style layer base bands bits ≡ Err Bits
bands_stop style layer base [] bits t b = absurd b
bands_stop style layer base (cells ∷ bands) bits t b =
    by (λ (q : List Bool) (x : BandsStop style layer (base + length cells.blocks) bands q). bands_stop style layer (base + length cells.blocks) bands q t.1 x) b
  where
    by : ((q : List Bool) → BandsStop style layer (base + length cells.blocks) bands q → scan_bands style layer (base + length cells.blocks) bands q ≡ Err Bits) →
        BandStops style layer base cells bits ⊎ ((behind : List Bool) × BandStands style layer base cells bits behind × BandsStop style layer (base + length cells.blocks) bands behind) →
        scan_bands style layer base (cells ∷ bands) bits ≡ Err Bits
    by again (inl x) = ap (λ (r : Result AllTold HeadFault). and_then r (on_band style layer base cells bands)) (band_stop style layer base cells bits t.0 x)
    by again (inr x) =
        let s = x.1 in
        let a = all_is (parts_told s.told.entries) (band_after layer cells s.told) x.0 in
        ap (λ (q : List Bool). scan_bands style layer base (cells ∷ bands) q) s.stands
        ∙ ap (λ (r : Result AllTold HeadFault). and_then r (on_band style layer base cells bands)) (band_made style layer base cells s.told x.0 t.0 s.is)
        ∙ ap (and_band a) (again x.0 x.2)

bands_fault : (a : AllTold) (r : Result BandsRead HeadFault) → and_band a r ≡ Err Bits → r ≡ Err Bits
bands_fault a (Err e) h = let is : e ≡ Bits = cc in ap (λ (x : HeadFault). let y : Result BandsRead HeadFault = Err x in y) is
bands_fault a (Ok x) h = absurd cc

bands_none : (style layer base : ℕ) (bands : List Cells) (bits : List Bool) → AreAllTrees bands → scan_bands style layer base bands bits ≡ Err Bits → BandsStop style layer base bands bits
bands_none style layer base [] bits t h = absurd cc
bands_none style layer base (cells ∷ bands) bits t h =
    by (λ (q : List Bool) (e : scan_bands style layer (base + length cells.blocks) bands q ≡ Err Bits). bands_none style layer (base + length cells.blocks) bands q t.1 e) (scan_band style layer base cells bits) refl h
  where
    by : ((q : List Bool) → scan_bands style layer (base + length cells.blocks) bands q ≡ Err Bits → BandsStop style layer (base + length cells.blocks) bands q) →
        (r : Result AllTold HeadFault) → scan_band style layer base cells bits ≡ r → and_then r (on_band style layer base cells bands) ≡ Err Bits → BandsStop style layer base (cells ∷ bands) bits
    by again (Err e) eq h =
        let is : e ≡ Bits = cc in
        inl (band_none style layer base cells bits t.0 (eq ∙ ap (λ (x : HeadFault). let y : Result AllTold HeadFault = Err x in y) is))
    by again (Ok a) eq h =
        let o = band_go style layer base cells bits a t.0 eq in
        inr (a.rest, record { told = o.told; is = o.is; stands = o.bits_are }, again a.rest (bands_fault a (scan_bands style layer (base + length cells.blocks) bands a.rest) h))

-- ---- a header
header_stop : (bytes : List ℕ) (k : State) → AreBands k.bands → HeaderStops bytes k → scan_header k (bits_of bytes).bits ≡ Err Bits
header_stop bytes k b x =
    ap (scan_header k) x.stands
    ∙ ap (λ (r : Result BandsRead HeadFault). and_then r (λ (y : BandsRead). Ok (header_of k y))) (bands_stop k.style k.layer 0 k.bands x.rest (all_trees k.bands b) x.stops)

header_none : (bytes : List ℕ) (k : State) → AreBands k.bands → scan_header k (bits_of bytes).bits ≡ Err Bits → BreaksBits bytes k
header_none bytes k b h = by (bits_of bytes).bits refl h
  where
    inner : (s : Result BandsRead HeadFault) → and_then s (λ (x : BandsRead). Ok (header_of k x)) ≡ Err Bits → s ≡ Err Bits
    inner (Err e) h = let is : e ≡ Bits = cc in ap (λ (x : HeadFault). let y : Result BandsRead HeadFault = Err x in y) is
    inner (Ok x) h = absurd cc

    by : (bits : List Bool) → (bits_of bytes).bits ≡ bits → scan_header k bits ≡ Err Bits → BreaksBits bytes k
    by [] eq h = inl eq
    by (false ∷ rest) eq h = absurd cc
    by (true ∷ rest) eq h = inr (inl (record { rest = rest; stands = eq; stops = bands_none k.style k.layer 0 k.bands rest (all_trees k.bands b) (inner (scan_bands k.style k.layer 0 k.bands rest) h) }))

-- a header whose end is missing is no packet
end_alone : (bytes : List ℕ) (k : State) (parts : List HeaderPart) (used : ℕ) (after : State) → AreBands k.bands → EndStops bytes k → IsPacket bytes k parts used after → ⊥
end_alone bytes k parts used after b e p =
    let one : Ok (header_is (header_parts e.header) (header_after k e.header) e.rest) ≡ Ok (header_is (header_parts p.header) (header_after k p.header) p.rest) =
    sym (header_made k e.header e.rest b e.is) ∙ ap (scan_header k) (sym e.stands ∙ p.stands) ∙ header_made k p.header p.rest b p.is in
    let same : header_is (header_parts e.header) (header_after k e.header) e.rest ≡ header_is (header_parts p.header) (header_after k p.header) p.rest = cc in
    let fronts : header_bits k e.header ≡ header_bits k p.header =
    append_cancel_right (header_bits k e.header) (header_bits k p.header) p.rest (ap (λ (l : List Bool). header_bits k e.header ++ l) (sym (ap (λ (x : HeaderRead). x.rest) same)) ∙ sym e.stands ∙ p.stands) in
    let ends : Err e.fault ≡ Ok used = sym e.ends ∙ ap (λ (l : List Bool). end_after bytes (length l)) fronts ∙ p.ends in
    cc

pub no_packet : (bytes : List ℕ) (k : State) (parts : List HeaderPart) (used : ℕ) (after : State) → AreBands k.bands → BreaksBits bytes k → IsPacket bytes k parts used after → ⊥
no_packet bytes k parts used after b (inl none) p = packet_none bytes k Bits parts after used b (ap (scan_header k) none) p
no_packet bytes k parts used after b (inr (inl x)) p = packet_none bytes k Bits parts after used b (header_stop bytes k b x) p
no_packet bytes k parts used after b (inr (inr e)) p = end_alone bytes k parts used after b e p

pub no_planes : (bytes : List ℕ) (k : State) → AreBands k.bands → BreaksBits bytes k → BreaksPlanes bytes k → ⊥
no_planes bytes k b (inl none) x = let e : Err Bits ≡ Err Planes = sym (ap (scan_header k) none) ∙ header_over bytes k b x in cc
no_planes bytes k b (inr (inl s)) x = let e : Err Bits ≡ Err Planes = sym (header_stop bytes k b s) ∙ header_over bytes k b x in cc
no_planes bytes k b (inr (inr s)) x =
    let e : Ok (header_is (header_parts s.header) (header_after k s.header) s.rest) ≡ Err Planes = sym (header_made k s.header s.rest b s.is) ∙ ap (scan_header k) (sym s.stands) ∙ header_over bytes k b x in
    cc

pub one_of_three : (bytes : List ℕ) (k : State) → AreBands k.bands → HasPacket bytes k ⊎ BreaksPlanes bytes k ⊎ BreaksBits bytes k
one_of_three bytes k b = by (scan_header k (bits_of bytes).bits) refl
  where
    ended : (r : HeaderRead) → (h : Header) → IsToldOf k h → (bits_of bytes).bits ≡ header_bits k h ++ r.rest → (e : Result ℕ BitFault) → end_after bytes (length (header_bits k h)) ≡ e →
        HasPacket bytes k ⊎ BreaksPlanes bytes k ⊎ BreaksBits bytes k
    ended r h is stands (Ok used) e = inl (record {
      parts = header_parts h;
      used = used;
      after = header_after k h;
      is = record { header = h; is = is; rest = r.rest; stands = stands; ends = e; parts_are = refl; after_is = refl };
    })
    ended r h is stands (Err f) e = inr (inr (inr (inr (record { header = h; is = is; rest = r.rest; stands = stands; fault = f; ends = e }))))

    refused : (f : HeadFault) → scan_header k (bits_of bytes).bits ≡ Err f → HasPacket bytes k ⊎ BreaksPlanes bytes k ⊎ BreaksBits bytes k
    refused Bits eq = inr (inr (header_none bytes k b eq))
    refused Planes eq = inr (inl (header_breaks bytes k b eq))
    refused NoMemory eq = absurd (header_kind k (bits_of bytes).bits eq)

    by : (s : Result HeaderRead HeadFault) → scan_header k (bits_of bytes).bits ≡ s → HasPacket bytes k ⊎ BreaksPlanes bytes k ⊎ BreaksBits bytes k
    by (Ok r) eq = let g = header_read k (bits_of bytes).bits r b eq in ended r g.header g.is g.stands (end_after bytes (length (header_bits k g.header))) refl
    by (Err f) eq = refused f eq

pub cause_broken : (bytes : List ℕ) (k : State) → AreBands k.bands → HasCause Bits bytes k → BreaksBits bytes k
cause_broken bytes k b c = by (one_of_three bytes k b)
  where
    by : HasPacket bytes k ⊎ BreaksPlanes bytes k ⊎ BreaksBits bytes k → BreaksBits bytes k
    by (inl p) = absurd (c.1 p.parts p.used p.after p.is)
    by (inr (inl x)) = absurd (c.0 x)
    by (inr (inr x)) = x

pub broken_cause : (bytes : List ℕ) (k : State) → AreBands k.bands → BreaksBits bytes k → HasCause Bits bytes k
broken_cause bytes k b x = (
  λ (p : BreaksPlanes bytes k). no_planes bytes k b x p,
  λ (parts : List HeaderPart) (used : ℕ) (after : State) (p : IsPacket bytes k parts used after). no_packet bytes k parts used after b x p,
)
