use Rattle.std.proofs.Common.{◌≡◌, ◌<◌, ◌+◌, ◌∙◌, ℕ, List, ◌∷◌, ◌++◌, length, get_or, drop, map, ap, sym, append-nil, arith}
use Rattle.std.proofs.lemmas.List.{at_drop_all, at_drop_more}
use Rattle.std.proofs.lemmas.List.Sums.{sum_by-append, sum_by-cons}
use Rattle.jx_progression.specs.declared.names.PacketName.{PacketName}
use Rattle.jx_tier2_writer.specs.Packed.{own_length, total}
use Rattle.jx_tier2_writer.proofs.tile.lengths_of.Goals as goal

-- the lengths so far, that of a packet, and the others
over_most : (f : PacketName → ℕ) (xs : List PacketName) (i : ℕ) (d : PacketName) (done : List ℕ) (sum most n : ℕ) → i < length xs → n ≡ f (get_or xs i d) → sum ≡ total done → most < sum + n
    → done ++ map f (drop i xs) ≡ map f xs → most < total (map f xs)
over_most f xs i d done sum most n lt own so_far over is =
    let rest : List ℕ = map f (drop (i + 1) xs) in
    let split : map f (drop i xs) ≡ f (get_or xs i d) ∷ rest = at_drop_more (map f) xs i d lt in
    let all : total (map f xs) ≡ total done + (f (get_or xs i d) + total rest) =
    ap total (sym is) ∙ sum_by-append (λ (k : ℕ). k) done (map f (drop i xs)) ∙ ap (λ (ks : List ℕ). total done + total ks) split
    ∙ ap (λ (k : ℕ). total done + k) (sum_by-cons (λ (k : ℕ). k) (f (get_or xs i d)) rest) in
    omega (arith, all, own, so_far, over)

pub returns-then-length-from-clause-long : goal.returns-then-length-from-clause-long
returns-then-length-from-clause-long g c e =
    over_most (own_length c.args.marks c.args.stream.now c.args.geom.now (map g.B.Coded.block c.args.values.now)) c.args.names.now c.loop-name.name-index _ c.loop-name.lengths.items c.loop-name.sum
    c.args.most c.packet_length-length.result c.loop-name-test.true c.packet_length-length.ensures.value c.loop-name.invariant.1
    (omega (arith, c.if-length-from.true, c.from.ensures, c.loop-name.invariant.0)) c.loop-name.invariant.2

pub returns-clause-value : goal.returns-clause-value
returns-clause-value g c =
    let f : PacketName → ℕ = own_length c.args.marks c.args.stream.now c.args.geom.now (map g.B.Coded.block c.args.values.now) in
    sym (append-nil c.loop-name.lengths.items)
    ∙ ap (λ (xs : List ℕ). c.loop-name.lengths.items ++ xs) (sym (at_drop_all (map f) c.args.names.now c.loop-name.name-index (omega (arith, c.loop-name-test.false))))
    ∙ c.loop-name.invariant.2
