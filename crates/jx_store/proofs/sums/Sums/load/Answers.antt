use Rattle.std.proofs.Common.{◌≡◌, ℕ, List, ◌≤◌, ◌+◌, ◌-◌, arith, ap, sym, subst, ◌∙◌}
use Rattle.std.specs.Prelude.{slice_get}
use Rattle.std.proofs.lemmas.Option.{slice_get_read}
use Rattle.jx_store.specs.Setup.{Setup, load, end_of}
use Rattle.jx_store.specs.Sums.{sums_from, items_of}
use Rattle.jx_store.proofs.Loads.{sums_long, load_read}
use Rattle.jx_store.proofs.sums.Sums.load.Goals as goal

pub index-requires : goal.index-requires
index-requires c =
    let f = c.self.inside in let i = c.self.invariant in
    let r = subst (λ (s : Setup). (s.first ≤ c.args.from) × (c.args.from ≤ c.args.to) × (c.args.to ≤ end_of s)) (sym c.self.view_is) c.requires in
    let long = sums_long (items_of f.sums.items) f.sums.items i.sums in
    let l = f.sums.ok.0 in
    omega (arith, r, long, l)

pub index-requires-2 : goal.index-requires-2
index-requires-2 c =
    let f = c.self.inside in let i = c.self.invariant in
    let r = subst (λ (s : Setup). (s.first ≤ c.args.from) × (c.args.from ≤ c.args.to) × (c.args.to ≤ end_of s)) (sym c.self.view_is) c.requires in
    let long = sums_long (items_of f.sums.items) f.sums.items i.sums in
    let l = f.sums.ok.0 in
    omega (arith, r, long, l)

-- the two sums differ by the load
differ : (c : goal.After-row_known-4-1) → c.index-2.result.now + load c.args.self.now c.args.from c.args.to ≡ c.index.result.now
differ c =
    let f = c.self.inside in let i = c.self.invariant in
    let r = subst (λ (s : Setup). (s.first ≤ c.args.from) × (c.args.from ≤ c.args.to) × (c.args.to ≤ end_of s)) (sym c.self.view_is) c.requires in
    let items = items_of f.sums.items in
    let p : Setup = record { first = f.first; sizes = items; window = f.window; most = f.most } in
    let long = sums_long items f.sums.items i.sums in
    let l = f.sums.ok.0 in
    let same : (k : ℕ) → slice_get (sums_from 0 items) k ≡ slice_get f.sums.items k = λ k. ap (λ (xs : List ℕ). slice_get xs k) (sym i.sums) in
    let high = slice_get_read f.sums.items f.sums.len (c.args.to - f.first) c.index.result.now l (omega (arith, r, long, l)) c.index.ensures in
    let low = slice_get_read f.sums.items f.sums.len (c.args.from - f.first) c.index-2.result.now l (omega (arith, r, long, l)) c.index-2.ensures in
    let e = load_read p c.args.from c.args.to c.index.result.now c.index-2.result.now r.0 r.1 r.2 (same (c.args.to - f.first) ∙ high) (same (c.args.from - f.first) ∙ low) in
    subst (λ (s : Setup). c.index-2.result.now + load s c.args.from c.args.to ≡ c.index.result.now) c.self.view_is e

pub overflow_sub-result : goal.overflow_sub-result
overflow_sub-result c = let e = differ c in omega (arith, e)

pub returns : goal.returns
returns c = let e = differ c in omega (arith, e)
