-- A block that is sent in its own layers keeps its pieces.
use Rattle.std.proofs.Common.{◌≡◌, ℕ, zero, suc, ◌+◌, ◌-◌, ◌<◌, ◌≤◌, ◌==◌, true, false, List, [], ◌∷◌, ◌++◌, inl, inr, ◌∙◌, ap, sym, subst, refl, arith, length, map, take, drop, append_assoc, length-append}
use Rattle.std.specs.List.{flat_map, list_all, list_any}
use Rattle.std.proofs.Math.Seq.{drop-append_seam, take-append_seam}
use Rattle.std.proofs.lemmas.Bool.{cases_eq, cases_Bool, cond-true, cond-false, eq-eqb, eqb-true, eqb-false, or_left, or_right, and_from}
use Rattle.jx_base.specs.Passes.{end_pass}
use Rattle.jx_base.specs.Pieces.{PieceValue, IsPieceOf, ArePieces, IsInOneSegment}
use Rattle.jx_packet_header.specs.Parts.{cut, one_more}
use Rattle.jx_codeblock.specs.declared.LayerEnd.{LayerEnd}
use Rattle.jx_codeblock.specs.declared.LayerPart.{LayerPart}
use Rattle.jx_codeblock.specs.Groups.{ends_it}
use Rattle.jx_codeblock.specs.Segments.{sent_by_pieces}
use Rattle.jx_codeblock.specs.Recoding.{layer_ends, has_own_ends, layer_parts, layer_parts_after, layer_part_bytes, piece_of}
use Rattle.jx_codeblock.specs.Laws.{AreCutAtEnds}
use Rattle.jx_codeblock.specs.Jobs.{AreEnds}
use Rattle.jx_codeblock.proofs.SentLemmas.{sent_in, sent_none}

-- ---- each own end is one
any_more : (n : ℕ) (ends more : List LayerEnd) → list_any (λ (own : LayerEnd). own.passes == n) more ≡ true
    → list_any (λ (own : LayerEnd). own.passes == n) (ends ++ more) ≡ true
any_more n [] more h = h
any_more n (e ∷ ends) more h = or_right (e.passes == n) (list_any (λ (own : LayerEnd). own.passes == n) (ends ++ more)) (any_more n ends more h)

all_own : (before ends : List LayerEnd) → list_all (λ (e : LayerEnd). list_any (λ (own : LayerEnd). own.passes == e.passes) (before ++ ends)) ends ≡ true
all_own before [] = refl
all_own before (e ∷ ends) =
    let here : list_any (λ (own : LayerEnd). own.passes == e.passes) (before ++ e ∷ ends) ≡ true =
    any_more e.passes before (e ∷ ends) (or_left (e.passes == e.passes) (list_any (λ (own : LayerEnd). own.passes == e.passes) ends) (eq-eqb e.passes e.passes refl)) in
    let same : (before ++ e ∷ []) ++ ends ≡ before ++ e ∷ ends = append_assoc before (e ∷ []) ends in
    let rest = all_own (before ++ e ∷ []) ends in
    let rest' : list_all (λ (f : LayerEnd). list_any (λ (own : LayerEnd). own.passes == f.passes) (before ++ e ∷ ends)) ends ≡ true = rw same at rest in
    and_from (list_any (λ (own : LayerEnd). own.passes == e.passes) (before ++ e ∷ ends))
    (list_all (λ (f : LayerEnd). list_any (λ (own : LayerEnd). own.passes == f.passes) (before ++ e ∷ ends)) ends) here rest'

pub own_are_own : (pieces : List PieceValue) → has_own_ends pieces (layer_ends pieces) ≡ true
own_are_own pieces = all_own [] (layer_ends pieces)

-- ---- where passes are cut
within_more : (style first n : ℕ) → IsInOneSegment style first (suc (suc n)) → IsInOneSegment style (first + 1) (suc n)
within_more style first n one = λ (pass : ℕ) le lt. one pass (omega arith) (omega arith)

cut_one : (style first n : ℕ) → IsInOneSegment style first (suc n) → cut style first (suc n) ≡ suc n ∷ []
cut_one style first zero one = elim (cases_Bool (end_pass style first)) [
  | inl t ↦ rw t refl
  | inr f ↦ rw f refl
]
cut_one style first (suc n) one =
    let flat : end_pass style first ≡ false = one first (omega arith) (omega arith) in
    let rest : cut style (first + 1) (suc n) ≡ suc n ∷ [] = cut_one style (first + 1) n (within_more style first n one) in
    cond-false (end_pass style first) (1 ∷ cut style (first + 1) (suc n)) (one_more (cut style (first + 1) (suc n))) flat ∙ ap one_more rest

cut_first : (style first n more : ℕ) → IsInOneSegment style first (suc n) → end_pass style (first + n) ≡ true
    → cut style first (suc n + more) ≡ suc n ∷ cut style (first + suc n) more
cut_first style first zero more one ends =
    let same : first + 0 ≡ first = omega arith in
    let here : end_pass style first ≡ true = rw same at ends in
    let all : 1 + more ≡ suc more = omega arith in
    rw all (cond-true (end_pass style first) (1 ∷ cut style (first + 1) more) (one_more (cut style (first + 1) more)) here)
cut_first style first (suc n) more one ends =
    let flat : end_pass style first ≡ false = one first (omega arith) (omega arith) in
    let e : first + suc n ≡ first + 1 + n = omega arith in
    let f : first + 1 + suc n ≡ first + suc (suc n) = omega arith in
    let all : suc (suc n) + more ≡ suc (suc n + more) = omega arith in
    let rest : cut style (first + 1) (suc n + more) ≡ suc n ∷ cut style (first + 1 + suc n) more =
    cut_first style (first + 1) n more (within_more style first n one) (subst (λ (k : ℕ). end_pass style k ≡ true) e ends) in
    ap (cut style first) all
    ∙ cond-false (end_pass style first) (1 ∷ cut style (first + 1) (suc n + more)) (one_more (cut style (first + 1) (suc n + more))) flat
    ∙ ap one_more rest ∙ ap (λ (k : ℕ). suc (suc n) ∷ cut style k more) f

-- ---- one part for each piece
abbrev pub part_for : (ℕ → ℕ) → PieceValue → LayerPart
part_for sent p = record { layer = p.layer; first = p.first; passes = p.passes; from = sent p.first; to = sent (p.first + p.passes) }

-- a layer's first piece, and the others
layer_first : (style : ℕ) (sent : ℕ → ℕ) (layer first n last : ℕ) (p : PieceValue) → IsPieceOf style layer first p → p.passes ≡ suc n → end_pass style (first + n) ≡ true → first + suc n ≤ last
    → layer_parts sent p.layer first (cut style first (last - first)) ≡ part_for sent p ∷ layer_parts sent p.layer (first + suc n) (cut style (first + suc n) (last - (first + suc n)))
layer_first style sent layer first n last p is long ends le =
    let one : IsInOneSegment style first (suc n) = subst (λ (k : ℕ). IsInOneSegment style first k) long (subst (λ (k : ℕ). IsInOneSegment style k p.passes) is.begins is.segment) in
    let sum : last - first ≡ suc n + (last - (first + suc n)) = omega arith in
    let e = ap (cut style first) sum ∙ cut_first style first n (last - (first + suc n)) one ends in
    ap (layer_parts sent p.layer first) e ∙ part_here p.layer first (suc n) is.begins long
  where
    part_here : (l f m : ℕ) → p.first ≡ first → p.passes ≡ suc n
        → ◌≡◌ {A = List LayerPart}
        (record { layer = p.layer; first = first; passes = suc n; from = sent first; to = sent (first + suc n) } ∷ layer_parts sent p.layer (first + suc n) (cut style (first + suc n) (last - (first + suc n))))
        (part_for sent p ∷ layer_parts sent p.layer (first + suc n) (cut style (first + suc n) (last - (first + suc n))))
    part_here l f m a b = rw (a, b) refl

layer_last : (style : ℕ) (sent : ℕ → ℕ) (layer first n last : ℕ) (p : PieceValue) → IsPieceOf style layer first p → p.passes ≡ suc n → last ≡ first + suc n
    → layer_parts sent p.layer first (cut style first (last - first)) ≡ part_for sent p ∷ []
layer_last style sent layer first n last p is long e =
    let one : IsInOneSegment style first (suc n) = subst (λ (k : ℕ). IsInOneSegment style first k) long (subst (λ (k : ℕ). IsInOneSegment style k p.passes) is.begins is.segment) in
    let sum : last - first ≡ suc n = omega arith in
    let c = ap (cut style first) sum ∙ cut_one style first n one in
    ap (layer_parts sent p.layer first) c ∙ part_here is.begins long
  where
    part_here : p.first ≡ first → p.passes ≡ suc n
        → ◌≡◌ {A = List LayerPart} (record { layer = p.layer; first = first; passes = suc n; from = sent first; to = sent (first + suc n) } ∷ []) (part_for sent p ∷ [])
    part_here a b = rw (a, b) refl

-- ---- the ends of some pieces' layers: the first is that of the first piece's layer
abbrev pub HeadAt : ℕ → ℕ → List LayerEnd → Type 0
HeadAt layer low [] = ⊥
HeadAt layer low (e ∷ ends) = (e.layer ≡ layer) × (low ≤ e.passes)

head_same : (layer other low less : ℕ) (ends : List LayerEnd) → HeadAt layer low ends → layer ≡ other → less ≤ low → HeadAt other less ends
head_same layer other low less [] h e le = h
head_same layer other low less (f ∷ ends) h e le = let at : low ≤ f.passes = h.1 in (h.0 ∙ e, omega arith)

pub head_at : (style layer first passes : ℕ) (p : PieceValue) (ps : List PieceValue) → ArePieces style layer first passes (p ∷ ps) → HeadAt p.layer first (layer_ends (p ∷ ps))
head_at style layer first passes p [] are = let begins : p.first ≡ first = are.0.begins in (refl, omega arith)
head_at style layer first passes p (q ∷ ps) are =
    let begins : p.first ≡ first = are.0.begins in
    let e : LayerEnd = record { layer = p.layer; passes = p.first + p.passes } in
    elim (cases_Bool (p.layer == q.layer)) [
      | inl t ↦
          let more : HeadAt q.layer (first + p.passes) (layer_ends (q ∷ ps)) = head_at style p.layer (first + p.passes) passes q ps are.1 in
          let here : HeadAt p.layer first (layer_ends (q ∷ ps)) =
          head_same q.layer p.layer (first + p.passes) first (layer_ends (q ∷ ps)) more (sym (eqb-true p.layer q.layer t)) (omega arith) in
          subst (λ (ends : List LayerEnd). HeadAt p.layer first ends) (sym (cond-true (p.layer == q.layer) (layer_ends (q ∷ ps)) (e ∷ layer_ends (q ∷ ps)) t)) here
      | inr f ↦
          let here : HeadAt p.layer first (e ∷ layer_ends (q ∷ ps)) = (refl, omega arith) in
          subst (λ (ends : List LayerEnd). HeadAt p.layer first ends) (sym (cond-false (p.layer == q.layer) (layer_ends (q ∷ ps)) (e ∷ layer_ends (q ∷ ps)) f)) here
    ]

-- ---- they may be asked
ends_earlier : (layer passes below less all : ℕ) (ends : List LayerEnd) → AreEnds layer passes all ends → below ≤ layer → less ≤ passes → (ends ≡ [] → ⊥) → AreEnds below less all ends
ends_earlier layer passes below less all [] are le le' some = absurd (some refl)
ends_earlier layer passes below less all (e ∷ ends) are le le' some =
    let a : layer ≤ e.layer = are.0 in
    let b : passes < e.passes = are.1 in
    (omega arith, omega arith, are.2)

head_some : (layer low : ℕ) (ends : List LayerEnd) → HeadAt layer low ends → ends ≡ [] → ⊥
head_some layer low [] h e = h
head_some layer low (f ∷ ends) h e = cc

pub own_ends_rise : (style layer first passes : ℕ) (ps : List PieceValue) → ArePieces style layer first passes ps → AreEnds layer first passes (layer_ends ps)
own_ends_rise style layer first passes [] are = are
own_ends_rise style layer first passes (p ∷ []) are =
    let begins : p.first ≡ first = are.0.begins in
    let some : 1 ≤ p.passes = are.0.some in
    let all : first + p.passes ≡ passes = are.1 in
    (are.0.layers, omega arith, omega arith)
own_ends_rise style layer first passes (p ∷ q ∷ ps) are =
    let begins : p.first ≡ first = are.0.begins in
    let some : 1 ≤ p.passes = are.0.some in
    let below : layer ≤ p.layer = are.0.layers in
    let e : LayerEnd = record { layer = p.layer; passes = p.first + p.passes } in
    let more : AreEnds p.layer (first + p.passes) passes (layer_ends (q ∷ ps)) = own_ends_rise style p.layer (first + p.passes) passes (q ∷ ps) are.1 in
    let head : HeadAt q.layer (first + p.passes) (layer_ends (q ∷ ps)) = head_at style p.layer (first + p.passes) passes q ps are.1 in
    let next : p.layer ≤ q.layer = are.1.0.layers in
    let P : List LayerEnd → Type 0 = λ ends. AreEnds layer first passes ends in
    elim (cases_Bool (p.layer == q.layer)) [
      | inl t ↦
          subst P (sym (cond-true (p.layer == q.layer) (layer_ends (q ∷ ps)) (e ∷ layer_ends (q ∷ ps)) t))
          (ends_earlier p.layer (first + p.passes) layer first passes (layer_ends (q ∷ ps)) more below (omega arith) (head_some q.layer (first + p.passes) (layer_ends (q ∷ ps)) head))
      | inr f ↦
          let other : p.layer ≡ q.layer → ⊥ = eqb-false p.layer q.layer f in
          let same : p.first + p.passes ≡ first + p.passes = omega arith in
          let later : AreEnds (p.layer + 1) (first + p.passes) passes (layer_ends (q ∷ ps)) =
          ends_later p.layer (first + p.passes) passes q.layer (layer_ends (q ∷ ps)) more head (omega (arith, next, order next other)) in
          subst P (sym (cond-false (p.layer == q.layer) (layer_ends (q ∷ ps)) (e ∷ layer_ends (q ∷ ps)) f))
          (below, omega arith, subst (λ (n : ℕ). AreEnds (p.layer + 1) n passes (layer_ends (q ∷ ps))) (sym same) later)
    ]
  where
    order : p.layer ≤ q.layer → (p.layer ≡ q.layer → ⊥) → p.layer + 1 ≤ q.layer
    order le ne = elim (cases_eq p.layer q.layer) [
      | inl e ↦ absurd (ne e)
      | inr other ↦ omega arith
    ]

    ends_later : (l n all m : ℕ) (ends : List LayerEnd) → AreEnds l n all ends → HeadAt m n ends → l + 1 ≤ m → AreEnds (l + 1) n all ends
    ends_later l n all m [] h at le = absurd at
    ends_later l n all m (f ∷ ends) h at le =
        let here : f.layer ≡ m = at.0 in
        (omega arith, h.1, h.2)

-- ---- one part for each piece
part_front : (style : ℕ) (sent : ℕ → ℕ) (layer first n : ℕ) (p : PieceValue) (ends : List LayerEnd) → IsPieceOf style layer first p → p.passes ≡ suc n
    → end_pass style (first + n) ≡ true → HeadAt p.layer (first + suc n) ends → layer_parts_after style sent first ends ≡ part_for sent p ∷ layer_parts_after style sent (first + suc n) ends
part_front style sent layer first n p [] is long ends_it head = absurd head
part_front style sent layer first n p (e ∷ ends) is long ends_it head =
    let le : first + suc n ≤ e.passes = head.1 in
    let step = layer_first style sent layer first n e.passes p is long ends_it le in
    let same : e.layer ≡ p.layer = head.0 in
    rw same (ap (λ (parts : List LayerPart). parts ++ layer_parts_after style sent e.passes ends) step)

pub parts_own : (style : ℕ) (sent : ℕ → ℕ) (layer first passes : ℕ) (ps : List PieceValue) → ArePieces style layer first passes ps → AreCutAtEnds style ps
    → layer_parts_after style sent first (layer_ends ps) ≡ map (part_for sent) ps
parts_own style sent layer first passes [] are cuts = refl
parts_own style sent layer first passes (p ∷ []) are cuts =
    let begins : p.first ≡ first = are.0.begins in
    let some : 1 ≤ p.passes = are.0.some in
    let long : p.passes ≡ suc (p.passes - 1) = omega arith in
    let last : p.first + p.passes ≡ first + suc (p.passes - 1) = omega arith in
    ap (λ (parts : List LayerPart). parts ++ []) (layer_last style sent layer first (p.passes - 1) (p.first + p.passes) p are.0 long last)
parts_own style sent layer first passes (p ∷ q ∷ ps) are cuts =
    let begins : p.first ≡ first = are.0.begins in
    let some : 1 ≤ p.passes = are.0.some in
    let long : p.passes ≡ suc (p.passes - 1) = omega arith in
    let last : p.first + p.passes ≡ first + suc (p.passes - 1) = omega arith in
    let next : first + p.passes ≡ first + suc (p.passes - 1) = omega arith in
    let e : LayerEnd = record { layer = p.layer; passes = p.first + p.passes } in
    let more : layer_parts_after style sent (first + p.passes) (layer_ends (q ∷ ps)) ≡ map (part_for sent) (q ∷ ps) =
    parts_own style sent p.layer (first + p.passes) passes (q ∷ ps) are.1 cuts.1 in
    let head : HeadAt q.layer (first + p.passes) (layer_ends (q ∷ ps)) = head_at style p.layer (first + p.passes) passes q ps are.1 in
    elim (cases_Bool (p.layer == q.layer)) [
      | inl t ↦
          let same : p.layer ≡ q.layer = eqb-true p.layer q.layer t in
          let ended : end_pass style (p.first + p.passes - 1) ≡ true = cuts.0 same in
          let there : p.first + p.passes - 1 ≡ first + (p.passes - 1) = omega arith in
          let ended' : end_pass style (first + (p.passes - 1)) ≡ true = rw there at ended in
          let head' : HeadAt p.layer (first + suc (p.passes - 1)) (layer_ends (q ∷ ps)) =
          head_same q.layer p.layer (first + p.passes) (first + suc (p.passes - 1)) (layer_ends (q ∷ ps)) head (sym same) (omega arith) in
          ap (layer_parts_after style sent first) (cond-true (p.layer == q.layer) (layer_ends (q ∷ ps)) (e ∷ layer_ends (q ∷ ps)) t)
          ∙ part_front style sent layer first (p.passes - 1) p (layer_ends (q ∷ ps)) are.0 long ended' head'
          ∙ ap (λ (n : ℕ). part_for sent p ∷ layer_parts_after style sent n (layer_ends (q ∷ ps))) (sym next)
          ∙ ap (λ (parts : List LayerPart). part_for sent p ∷ parts) more
      | inr f ↦
          let here : p.first + p.passes ≡ first + p.passes = omega arith in
          ap (layer_parts_after style sent first) (cond-false (p.layer == q.layer) (layer_ends (q ∷ ps)) (e ∷ layer_ends (q ∷ ps)) f)
          ∙ ap (λ (parts : List LayerPart). parts ++ layer_parts_after style sent (p.first + p.passes) (layer_ends (q ∷ ps)))
          (layer_last style sent layer first (p.passes - 1) (p.first + p.passes) p are.0 long last)
          ∙ ap (λ (n : ℕ). part_for sent p ∷ layer_parts_after style sent n (layer_ends (q ∷ ps))) here
          ∙ ap (λ (parts : List LayerPart). part_for sent p ∷ parts) more
    ]

-- ---- with the bytes of its piece
piece_same : (p : PieceValue) (bytes : List ℕ) → bytes ≡ p.bytes → ◌≡◌ {A = PieceValue} (record { layer = p.layer; first = p.first; passes = p.passes; bytes = bytes }) p
piece_same p bytes e = rw e refl

cut_out : (from to : ℕ) (before bytes rest whole : List ℕ) → from ≡ length before → to ≡ length before + length bytes → whole ≡ before ++ (bytes ++ rest)
    → take (to - from) (drop from whole) ≡ bytes
cut_out from to before bytes rest whole a b e =
    let n : to - from ≡ length bytes = omega arith in
    rw (n, a, e) (ap (take (length bytes)) (drop-append_seam before (bytes ++ rest)) ∙ take-append_seam bytes rest)

pub pieces_same : (style : ℕ) (sent : ℕ → ℕ) (layer first passes : ℕ) (ps : List PieceValue) (before whole : List ℕ) → ArePieces style layer first passes ps
    → ((n : ℕ) → first ≤ n → sent n ≡ length before + sent_by_pieces ps n) → whole ≡ before ++ flat_map (λ (p : PieceValue). p.bytes) ps
    → map (piece_of whole) (map (part_for sent) ps) ≡ ps
pieces_same style sent layer first passes [] before whole are has e = refl
pieces_same style sent layer first passes (p ∷ ps) before whole are has e =
    let begins : p.first ≡ first = are.0.begins in
    let rest : List ℕ = flat_map (λ (q : PieceValue). q.bytes) ps in
    let none : sent_by_pieces (p ∷ ps) p.first ≡ 0 = sent_none style layer first passes p.first (p ∷ ps) are (omega arith) in
    let from : sent p.first ≡ length before = has p.first (omega arith) ∙ omega arith in
    let still : sent_by_pieces ps (p.first + p.passes) ≡ 0 = sent_none style p.layer (first + p.passes) passes (p.first + p.passes) ps are.1 (omega arith) in
    let inside : sent_by_pieces (p ∷ ps) (p.first + p.passes) ≡ length p.bytes + sent_by_pieces ps (p.first + p.passes) = sent_in (p.first + p.passes) p ps (omega arith) in
    let to : sent (p.first + p.passes) ≡ length before + length p.bytes = has (p.first + p.passes) (omega arith) ∙ omega arith in
    let here : piece_of whole (part_for sent p) ≡ p = piece_same p (layer_part_bytes whole (part_for sent p)) (cut_out (sent p.first) (sent (p.first + p.passes)) before p.bytes rest whole from to e) in
    let grown : length (before ++ p.bytes) ≡ length before + length p.bytes = length-append before p.bytes in
    let more : map (piece_of whole) (map (part_for sent) ps) ≡ ps =
    pieces_same style sent p.layer (first + p.passes) passes ps (before ++ p.bytes) whole are.1
    (λ (n : ℕ) le. has n (omega arith) ∙ omega (arith, grown, sent_in n p ps (omega arith)))
    (e ∙ sym (append_assoc before p.bytes rest)) in
    cc
