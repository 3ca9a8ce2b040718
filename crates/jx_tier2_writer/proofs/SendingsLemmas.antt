-- What is sent of the precincts of a tile.
use Rattle.std.proofs.Common.{◌≡◌, ℕ, zero, suc, ◌+◌, ◌<◌, List, [], ◌∷◌, ◌++◌, length, take, get_or, ◌∙◌, ap, sym, subst, refl, arith, append-nil, append_assoc, Option, Some, None}
use Rattle.std.specs.List.{flat_map, slice_get}
use Rattle.std.proofs.lemmas.Option.{same_Some}
use Rattle.jx_base.specs.declared.pieces.Block.{Block}
use Rattle.jx_base.specs.Joined.{joined}
use Rattle.jx_base.specs.Places.{size_of}
use Rattle.jx_base.proofs.Joined.{joined_none, joined_next}
use Rattle.jx_geom.specs.declared.table.Resolution.{Resolution}
use Rattle.jx_geom.specs.Geometry.{Geometry, precincts_in}
use Rattle.jx_geom.specs.Precincts.{HasPrecinct, precinct_number}
use Rattle.jx_geom.specs.Resolutions.{resolutions_of}
use Rattle.jx_progression.specs.Steps.{name_of}
use Rattle.jx_progression.specs.declared.names.PacketName.{PacketName}
use Rattle.jx_codestream.specs.declared.Stream.{Stream}
use Rattle.jx_tier2_reader.proofs.ListedLemmas.{by_resolution, rows_all, rows_next}
use Rattle.jx_tier2_writer.specs.Names.{AreSendings, one_name, resolution_names, tile_names}
use Rattle.jx_tier2_writer.specs.Own.{IsSending}
use Rattle.jx_tier2_writer.specs.Sendings.{Sending}
use Rattle.jx_tier2_writer.proofs.NameLemmas.{name_there, names_listed}

-- one more
push_one : (s : Stream) (g : Geometry) (own : List Block) (datas : List (List ℕ)) (names : List PacketName) (list : List Sending) (n : PacketName) (p : Sending)
    → AreSendings s g own datas names list → IsSending s g own datas n.comp n.res n.precinct p → AreSendings s g own datas (names ++ n ∷ []) (list ++ p ∷ [])
push_one s g own datas [] [] n p are is = (is, tt)
push_one s g own datas [] (x ∷ list) n p are is = absurd are
push_one s g own datas (y ∷ names) [] n p are is = absurd are
push_one s g own datas (y ∷ names) (x ∷ list) n p are is = (are.0, push_one s g own datas names list n p are.1 is)

pub push_none : (s : Stream) (g : Geometry) (own : List Block) (datas : List (List ℕ)) (c r : ℕ) (names : List PacketName) (list : List Sending)
    → AreSendings s g own datas names list → AreSendings s g own datas (names ++ joined (one_name c r) 0 0) list
push_none s g own datas c r names list are =
    let e : names ++ joined (one_name c r) 0 0 ≡ names = ap (λ (xs : List PacketName). names ++ xs) (joined_none (one_name c r) 0 0 (omega arith)) ∙ append-nil names in
    subst (λ (xs : List PacketName). AreSendings s g own datas xs list) (sym e) are

pub push_next : (s : Stream) (g : Geometry) (own : List Block) (datas : List (List ℕ)) (c r k : ℕ) (names : List PacketName) (old new : List Sending) (p : Sending)
    → AreSendings s g own datas (names ++ joined (one_name c r) 0 k) old → IsSending s g own datas c r k p → new ≡ old ++ p ∷ []
    → AreSendings s g own datas (names ++ joined (one_name c r) 0 (k + 1)) new
push_next s g own datas c r k names old new p are is made =
    let front : List PacketName = names ++ joined (one_name c r) 0 k in
    let e : front ++ name_of 0 r c k ∷ [] ≡ names ++ joined (one_name c r) 0 (k + 1) =
    append_assoc names (joined (one_name c r) 0 k) (name_of 0 r c k ∷ []) ∙ ap (λ (xs : List PacketName). names ++ xs) (sym (joined_next (one_name c r) 0 k (omega arith))) in
    subst (λ (xs : List PacketName). AreSendings s g own datas xs new) e
    (subst (λ (xs : List Sending). AreSendings s g own datas (front ++ name_of 0 r c k ∷ []) xs) (sym made) (push_one s g own datas front old (name_of 0 r c k) p are is))

pub push_all : (s : Stream) (g : Geometry) (own : List Block) (datas : List (List ℕ)) (c r k : ℕ) (names : List PacketName) (list : List Sending)
    → k ≡ size_of (precincts_in g c r) → AreSendings s g own datas (names ++ joined (one_name c r) 0 k) list → AreSendings s g own datas (names ++ resolution_names g c r) list
unfolding resolution_names
push_all s g own datas c r k names list all are = subst (λ (m : ℕ). AreSendings s g own datas (names ++ joined (one_name c r) 0 m) list) all are

-- the list of resolutions
pub row_next : (s : Stream) (g : Geometry) (own : List Block) (datas : List (List ℕ)) (rows : List Resolution) (i : ℕ) (d : Resolution) (list : List Sending) → i < length rows
    → AreSendings s g own datas (flat_map (by_resolution (resolution_names g)) (take i rows) ++ resolution_names g (get_or rows i d).comp (get_or rows i d).res) list
    → AreSendings s g own datas (flat_map (by_resolution (resolution_names g)) (take (i + 1) rows)) list
row_next s g own datas rows i d list lt are =
    let front : List PacketName = flat_map (by_resolution (resolution_names g)) (take i rows) in
    subst (λ (xs : List PacketName). AreSendings s g own datas xs list)
    (rows_next (resolution_names g) rows i d front (front ++ resolution_names g (get_or rows i d).comp (get_or rows i d).res) lt refl refl) are

pub rows_end : (s : Stream) (g : Geometry) (own : List Block) (datas : List (List ℕ)) (rows : List Resolution) (i : ℕ) (list : List Sending) → i ≡ length rows → rows ≡ resolutions_of g
    → AreSendings s g own datas (flat_map (by_resolution (resolution_names g)) (take i rows)) list → AreSendings s g own datas (tile_names g) list
rows_end s g own datas rows i list all is are =
    subst (λ (xs : List PacketName). AreSendings s g own datas xs list)
    (rows_all (resolution_names g) g rows i (flat_map (by_resolution (resolution_names g)) (take i rows)) all is refl ∙ names_listed g) are

-- ---- what is sent of one
abbrev pub IsSendingOf : Stream → Geometry → List Block → List (List ℕ) → ℕ → ℕ → ℕ → Option Sending → Type 0
IsSendingOf s g own datas c r k None = ⊥
IsSendingOf s g own datas c r k (Some p) = IsSending s g own datas c r k p

named_at : (s : Stream) (g : Geometry) (own : List Block) (datas : List (List ℕ)) (names : List PacketName) (list : List Sending) (i : ℕ) (n : PacketName)
    → AreSendings s g own datas names list → slice_get names i ≡ Some n → IsSendingOf s g own datas n.comp n.res n.precinct (slice_get list i)
named_at s g own datas [] [] i n are is = absurd cc
named_at s g own datas [] (p ∷ list) i n are is = absurd are
named_at s g own datas (m ∷ names) [] i n are is = absurd are
named_at s g own datas (m ∷ names) (p ∷ list) zero n are is =
    subst (λ (x : PacketName). IsSending s g own datas x.comp x.res x.precinct p) (same_Some m n is) are.0
named_at s g own datas (m ∷ names) (p ∷ list) (suc i) n are is = named_at s g own datas names list i n are.1 is

pub sending_there : (s : Stream) (g : Geometry) (own : List Block) (datas : List (List ℕ)) (list : List Sending) (c r k : ℕ) → AreSendings s g own datas (tile_names g) list → HasPrecinct g c r k
    → IsSendingOf s g own datas c r k (slice_get list (precinct_number g c r k))
sending_there s g own datas list c r k are has = named_at s g own datas (tile_names g) list (precinct_number g c r k) (name_of 0 r c k) are (name_there g c r k has)
