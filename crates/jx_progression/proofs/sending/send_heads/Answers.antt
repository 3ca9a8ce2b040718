use Rattle.std.proofs.Common.{◌≡◌, ℕ, List, [], ◌++◌, append-nil, arith, ap, subst, sym, length, take, drop}
use Rattle.jx_progression.specs.declared.bounds.Bounds.{Bounds}
use Rattle.jx_progression.specs.Groups.{AreBounds, AreGroups}
use Rattle.jx_progression.specs.Steps.{HasPlaces}
use Rattle.jx_progression.proofs.SomeLemmas.{all_from_some, some_none}
use Rattle.jx_progression.proofs.SpreadLemmas.{whole_slice}
use Rattle.jx_progression.proofs.sending.send_heads.Goals as goal

pub returns-then-repeat-clause-all : goal.returns-then-repeat-clause-all
returns-then-repeat-clause-all c = (
  [],
  sym (append-nil c.args.list.now.items),
  all_from_some c.args.geom.now c.args.layers c.args.entry c.args.table.now.sent.items c.args.table.now.sent.items []
      (some_none c.args.geom.now c.args.layers c.args.entry c.args.table.now.sent.items) (c.requires.repeat c.if-repeat.true),
)

pub send_groups-requires-clause-bounds : goal.send_groups-requires-clause-bounds
send_groups-requires-clause-bounds c =
    let P : List ℕ → Type 0 = λ ps. AreBounds c.args.geom.now ps c.args.table.now.groups.items c.args.table.now.sent.items in
    let Q : List Bounds → Type 0 = λ bs. AreBounds c.args.geom.now c.as_slice-places.result.now bs c.args.table.now.sent.items in
    let R : List ℕ → Type 0 = λ ss. AreBounds c.args.geom.now c.as_slice-places.result.now c.deref_mut.result.now ss in
    subst R (sym c.deref_mut-2.ensures.value) (subst Q (sym c.deref_mut.ensures.value) (subst P (sym c.as_slice-places.ensures.value) c.requires.ready.bounds))

pub returns-clause-ready : goal.returns-clause-ready
returns-clause-ready c =
    let g = c.args.geom.now in
    let t = c.args.table.now in
    let bounds = c.send_groups.new.groups in
    let sent = c.send_groups.new.sent in
    let same : length bounds ≡ length t.groups.items =
    omega (arith, c.send_groups.auto.groups, ap (λ (bs : List Bounds). length bs) c.deref_mut.ensures.value) in
    let long : length sent ≡ length t.sent.items =
    omega (arith, c.send_groups.auto.sent, ap (λ (ss : List ℕ). length ss) c.deref_mut-2.ensures.value) in
    let whole_groups = whole_slice t.groups.items bounds t.groups.len (omega (arith, c.deref_mut.ensures.len)) same in
    let whole_sent = whole_slice t.sent.items sent t.sent.len (omega (arith, c.deref_mut-2.ensures.len)) long in
    let G : ℕ → Type 0 = λ n. AreGroups g t.places.items n in
    let H : List Bounds → Type 0 = λ bs. AreGroups g t.places.items (length bs) in
    let P : List ℕ → Type 0 = λ ps. AreBounds g ps bounds sent in
    let Q : List Bounds → Type 0 = λ bs. AreBounds g t.places.items bs sent in
    let R : List ℕ → Type 0 = λ ss. AreBounds g t.places.items (take t.groups.len (bounds ++ drop (length bounds) t.groups.items)) ss in
    let S : List ℕ → Type 0 = λ ss. HasPlaces g ss in
    record {
      places = subst S (sym whole_sent) c.in_ok-send_groups.ensures.places;
      groups = subst H (sym whole_groups) (subst G (sym same) c.requires.ready.groups);
      bounds = subst R (sym whole_sent) (subst Q (sym whole_groups) (subst P c.as_slice-places.ensures.value c.in_ok-send_groups.ensures.bounds));
    }
