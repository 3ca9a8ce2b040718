use Rattle.std.proofs.Common.{◌≡◌, ◌∙◌, ◌<◌, ◌==◌, ◌||◌, ◌++◌, ℕ, Bool, false, ◌∷◌, [], List, Option, length, append-nil, arith, refl, sym, ap}
use Rattle.std.specs.List.{filter, list_any}
use Rattle.std.proofs.lemmas.Grind.{flat_map-append}
use Rattle.std.proofs.lemmas.List.{length-map, map-append}
use Rattle.std.proofs.lemmas.Bool.Decides.{nat_tests}
use Rattle.std.proofs.lemmas.List.Elements.{filter-append}
use Rattle.std.proofs.lemmas.List.Folds.{list_any-append}
use Rattle.jx_marker.specs.declared.Segment.{Segment}
use Rattle.jx_marker.specs.declared.Progression.{Progression}
use Rattle.jx_codestream.specs.declared.Body.{Body}
use Rattle.jx_codestream.specs.declared.parts.PlacedPart.{PlacedPart}
use Rattle.jx_codestream.specs.declared.tiles.Draft.{Draft}
use Rattle.jx_codestream.specs.PackedHeaders.{both_heads}
use Rattle.jx_codestream.specs.Tiles.{Collects, entries_joined, entries_of, headers_of, is_com, is_plt}
use Rattle.jx_codestream.proofs.SharesLemmas.{heads_on}
use Rattle.jx_codestream.proofs.tiles.Draft.add.Goals as goal

headers_on : (own : List PlacedPart) (p : PlacedPart) → headers_of (own ++ p ∷ []) ≡ headers_of own ++ p.header
headers_on own p = flat_map-append (λ (q : PlacedPart). q.header) own (p ∷ []) ∙ ap (λ (x : List Segment). headers_of own ++ x) (append-nil p.header)

some_there : (n : ℕ) → (n == 0) ≡ false → 0 < n
some_there n h = grind (arith, nat_tests)

-- a tile-part after others of its tile
more : (own : List PlacedPart) (p : PlacedPart) (d next : Draft) → 0 < length own → Collects own d → next.place ≡ d.place → next.header.items ≡ d.header.items
    → next.notes.items ≡ d.notes.items ++ filter is_com p.header → next.has_plt ≡ (d.has_plt || list_any is_plt p.header)
    → next.entries.items ≡ d.entries.items ++ entries_joined p.header → next.heads ≡ both_heads d.heads p.heads
    → next.bodies.items ≡ d.bodies.items ++ p.body ∷ [] → Collects (own ++ p ∷ []) next
more [] p d next some was place header notes plt entries heads bodies = absurd (omega (arith, some))
more (q ∷ own) p d next some was place header notes plt entries heads bodies = record {
  place = place ∙ was.place;
  header = header ∙ was.header;
  notes = notes ∙ ap (λ (x : List Segment). x ++ filter is_com p.header) was.notes ∙ sym (ap (filter is_com) (headers_on own p) ∙ filter-append is_com (headers_of own) p.header);
  has_plt = plt ∙ ap (λ (x : Bool). x || list_any is_plt p.header) was.has_plt
      ∙ sym (ap (list_any is_plt) (headers_on (q ∷ own) p) ∙ list_any-append is_plt (headers_of (q ∷ own)) p.header);
  entries = entries ∙ ap (λ (x : List Progression). x ++ entries_joined p.header) was.entries
      ∙ sym (ap entries_joined (headers_on (q ∷ own) p) ∙ flat_map-append entries_of (headers_of (q ∷ own)) p.header);
  heads = heads ∙ ap (λ (x : Option (List Body)). both_heads x p.heads) was.heads ∙ sym (heads_on (q ∷ own) p);
  bodies = bodies ∙ ap (λ (x : List Body). x ++ p.body ∷ []) was.bodies ∙ sym (map-append (λ (r : PlacedPart). r.body) (q ∷ own) (p ∷ []));
}

pub returns : goal.returns
returns c = λ own was.
    let next : Draft = record {
      place = c.args.self.now.place;
      header = c.args.self.now.header;
      notes = c.push_notes.new.notes;
      has_plt = c.has_plt-self.result;
      entries = c.push_entries.new.entries;
      heads = c.add.new.self;
      bodies = c.push-2.new.self;
    } in
    let none : (c.args.self.now.bodies.len == 0) ≡ false = sym c.is_empty.ensures ∙ c.if-is_empty.false in
    let some : 0 < length own = omega (arith, some_there c.args.self.now.bodies.len none, c.args.self.now.bodies.ok.0, ap (λ (x : List Body). length x) was.bodies, length-map own (λ (r : PlacedPart). r.body)) in
    more own c.args.part c.args.self.now next some was refl refl
    (c.in_ok-push_notes.ensures ∙ ap (λ (x : List Segment). c.args.self.now.notes.items ++ filter is_com x) c.into_vec-2.ensures)
    (c.has_plt-self.ensures ∙ ap (λ (x : List Segment). c.args.self.now.has_plt || list_any is_plt x) c.as_slice-2.ensures)
    (c.in_ok-push_entries.ensures ∙ ap (λ (x : List Segment). c.args.self.now.entries.items ++ entries_joined x) c.as_slice.ensures)
    c.in_ok-add.ensures c.in_ok-push-2.ensures.items
