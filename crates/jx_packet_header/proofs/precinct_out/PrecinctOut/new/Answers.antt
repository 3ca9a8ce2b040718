use Rattle.std.proofs.Common.{◌≡◌, ◌<◌, ◌∷◌, [], ◌++◌, ◌∙◌, ℕ, List, map, length, sym, ap, subst, arith}
use Rattle.jx_packet_header.specs.declared.BandCells.{BandCells}
use Rattle.jx_packet_header.specs.declared.Leaf.{Leaf}
use Rattle.jx_packet_header.specs.Leafs.{leaf_of}
use Rattle.jx_packet_header.specs.Written.{some_in}
use Rattle.jx_packet_header.specs.Writable.{AllFew, AllBytes, HeaderDone, AreMade, AreRising}
use Rattle.jx_packet_header.specs.LeavesFit.{AllShort, IsPlan, AreHeaders}
use Rattle.jx_packet_header.proofs.CursorLemmas.{noted_here}
use Rattle.jx_packet_header.proofs.PlanLemmas.{LayersLoop, layers_start, layers_next}
use Rattle.jx_packet_header.proofs.precinct_out.PrecinctOut.new.Goals as goal

pub fresh_bands_out-requires-clause-few : goal.fresh_bands_out-requires-clause-few
fresh_bands_out-requires-clause-few c =
    subst (λ (l : List Leaf). AllFew (map leaf_of l)) (sym c.deref-2.ensures.value) c.requires.leaves.few

pub fresh_bands_out-requires-clause-bytes : goal.fresh_bands_out-requires-clause-bytes
fresh_bands_out-requires-clause-bytes c =
    subst (λ (l : List Leaf). AllBytes (map leaf_of l)) (c.deref.ensures.value ∙ sym c.deref-2.ensures.value) c.ranges_of_types.ensures.bytes

pub one_header-requires-clause-some : goal.one_header-requires-clause-some
one_header-requires-clause-some c =
    let lt : c.loop-layer.layer < c.args.layers = c.loop-layer-test.true in
    let long : length c.in_ok-some.some.items ≡ c.args.layers = c.in_ok-some.ensures.long in
    noted_here c.in_ok-some.some.items c.loop-layer.layer c.index-here.result.now (some_in c.loop-layer.layer (map leaf_of c.deref-in-loop-layer.result.now)) (omega arith) c.index-here.ensures
    (c.in_ok-some.ensures.each c.loop-layer.layer lt ∙ ap (λ (l : List Leaf). some_in c.loop-layer.layer (map leaf_of l)) (c.deref-4.ensures.value ∙ sym c.deref-in-loop-layer.ensures.value))

pub one_header-requires-clause-rising : goal.one_header-requires-clause-rising
one_header-requires-clause-rising c = λ r.
    subst (λ (l : List Leaf). AreRising (map leaf_of l)) (c.deref-3.ensures.value ∙ sym c.deref-in-loop-layer.ensures.value) (c.are_rising-rising.ensures r)

pub loop-layer-init : goal.loop-layer-init
loop-layer-init c =
    let made : AreMade c.args.layers c.args.bands.now (map leaf_of c.args.leaves.items) c.in_ok-made.made.items =
    subst (λ (l : List Leaf). AreMade c.args.layers c.args.bands.now (map leaf_of l) c.in_ok-made.made.items) c.deref-2.ensures.value c.in_ok-made.ensures in
    subst (λ (hs : List ℕ). LayersLoop c.args.layers c.args.style.bits 0 c.args.bands.now (map leaf_of c.args.leaves.items) c.in_ok-made.made.items hs c.push.new.self.items) (sym c.new-headers.ensures.items)
    (subst (λ (ps : List ℕ). LayersLoop c.args.layers c.args.style.bits 0 c.args.bands.now (map leaf_of c.args.leaves.items) c.in_ok-made.made.items [] ps)
    (sym (c.in_ok-push.ensures.items ∙ ap (λ (l : List ℕ). l ++ 0 ∷ []) c.new-places.ensures.items))
    (layers_start c.args.layers c.args.style.bits c.args.bands.now (map leaf_of c.args.leaves.items) c.in_ok-made.made.items made))

pub loop-layer-preserved : goal.loop-layer-preserved
loop-layer-preserved c =
    let after = c.extend_from_slice.new.self.items in
    let count : c.len.result ≡ length after = omega (arith, c.len.ensures, c.extend_from_slice.new.self.ok.0) in
    layers_next c.args.layers c.args.style.bits c.loop-layer.layer c.args.bands.now (map leaf_of c.args.leaves.items) c.loop-layer.made.items c.one_header.new.bands.items
    c.loop-layer.headers.items c.loop-layer.places.items after c.push-in-loop-layer.new.self.items c.in_ok-header.header.items c.loop-layer.invariant
    (subst (λ (l : List Leaf). HeaderDone c.loop-layer.layer (map leaf_of l) c.loop-layer.made.items c.one_header.new.bands.items c.in_ok-header.header.items) c.deref-in-loop-layer.ensures.value c.in_ok-header.ensures)
    (c.in_ok-extend_from_slice.ensures.items ∙ ap (λ (l : List ℕ). c.loop-layer.headers.items ++ l) c.deref-in-loop-layer-2.ensures.value)
    (c.in_ok-push-2.ensures.items ∙ ap (λ (n : ℕ). c.loop-layer.places.items ++ n ∷ []) count)

pub invariant_of-result : goal.invariant_of-result
invariant_of-result c =
    let last : c.loop-layer.layer ≡ c.args.layers = omega arith in
    subst (λ (bands : List BandCells). IsPlan c.args.layers c.args.style.bits bands (map leaf_of c.args.leaves.items) c.loop-layer.headers.items c.loop-layer.places.items) (sym c.in_ok-from_slice.ensures.items)
    (record {
      cells = c.requires.bands;
      types = record { few = c.ranges.layers.fits; short = subst (λ (l : List Leaf). AllShort (map leaf_of l)) c.deref.ensures.value c.ranges_of_types.ensures.short };
      are = subst (λ (n : ℕ). AreHeaders c.args.layers c.args.style.bits c.args.bands.now (map leaf_of c.args.leaves.items) n c.loop-layer.headers.items c.loop-layer.places.items) last c.loop-layer.invariant.headers_are;
    })
