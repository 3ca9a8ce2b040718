use Rattle.std.proofs.Common.{◌≡◌, ◌∙◌, ◌==◌, ap, ℕ, Bool, List, ◌++◌, length, string_bytes, None}
use Rattle.jx_base.specs.Joined.{joined}
use Rattle.jx_marker.specs.declared.Progression.{Progression}
use Rattle.jx_marker.specs.declared.Segment.{Segment}
use Rattle.jx_codestream.specs.First.{tile_number}
use Rattle.jx_codestream.specs.Tiles.{entries_joined}
use Rattle.jx_show.specs.declared.fact.About.{About}
use Rattle.jx_show.specs.Facts.{byte_facts, entry_facts, facts_of, has_order, header_facts, of_tile, picture_facts, size_facts, tile_facts, total_facts}
use Rattle.jx_show.specs.Stated.{text_of}
use Rattle.jx_show.proofs.TextLemmas.{seven}
use Rattle.jx_show.proofs.whole.push_facts.Goals as goal

pub returns : goal.returns
unfolding facts_of
returns c =
    let s = c.args.stream.now in
    let b = c.args.blocks.now in
    let json = c.args.json in
    let t2 : List ℕ = string_bytes c.push_sizes.new.text in
    let t3 : List ℕ = string_bytes c.push_header.new.text in
    let t5 : List ℕ = string_bytes c.push_totals.new.text in
    let all : c.deref-entries.result.now ≡ entries_joined s.main = c.deref-entries.ensures.value ∙ (c.in_ok-joined.ensures ∙ ap (λ (xs : List Segment). entries_joined xs) c.as_slice.ensures) in
    let ordered : c.is_empty.result ≡ has_order s = c.is_empty.ensures ∙ ap (λ (xs : List Progression). length xs == 0) all in
    let header : t3 ≡ t2 ++ text_of json (header_facts None (has_order s) s.main) =
    c.in_ok-push_header.ensures
    ∙ (ap (λ (xs : List Segment). t2 ++ text_of json (header_facts None c.is_empty.result xs)) c.as_slice-2.ensures
    ∙ ap (λ (o : Bool). t2 ++ text_of json (header_facts None o s.main)) ordered) in
    let entries : string_bytes c.push_entries.new.text ≡ t3 ++ text_of json (entry_facts (of_tile None) 0 (entries_joined s.main)) =
    c.in_ok-push_entries.ensures
    ∙ (ap (λ (a : About). t3 ++ text_of json (entry_facts a 0 c.deref-entries.result.now)) c.of_tile.ensures
    ∙ ap (λ (xs : List Progression). t3 ++ text_of json (entry_facts (of_tile None) 0 xs)) all) in
    let bytes : string_bytes c.push_bytes.new.text ≡ t5 ++ text_of json (joined (byte_facts b) 0 (length s.siz.comps)) =
    c.in_ok-push_bytes.ensures ∙ ap (λ (n : ℕ). t5 ++ text_of json (joined (byte_facts b) 0 n)) c.comps_of.ensures in
    seven json (picture_facts s.siz) (size_facts s.siz) (header_facts None (has_order s) s.main) (entry_facts (of_tile None) 0 (entries_joined s.main)) (total_facts s b)
    (joined (byte_facts b) 0 (length s.siz.comps)) (joined (tile_facts s) 0 (tile_number s.siz)) (string_bytes c.args.text.now) (string_bytes c.push_picture.new.text) t2 t3
    (string_bytes c.push_entries.new.text) t5 (string_bytes c.push_bytes.new.text) (string_bytes c.push_tiles.new.text) c.in_ok-push_picture.ensures c.in_ok-push_sizes.ensures
    header entries c.in_ok-push_totals.ensures bytes c.in_ok-push_tiles.ensures
