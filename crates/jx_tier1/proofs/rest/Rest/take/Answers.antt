use Rattle.std.proofs.Common.{[], ◌<◌, ◌^◌, List, ℕ, Bor, map, drop, length, refl}
use Rattle.std.proofs.lemmas.List.Elements.{All-drop}
use Rattle.jx_tier1_specs.specs.Segments.{bytes_of}
use Rattle.jx_tier1_specs.proofs.Firsts.{first_there, rest_after, short_first}
use Rattle.jx_tier1.proofs.rest.Rest.take.Goals as goal

pub invariant_of-self : goal.invariant_of-self
invariant_of-self c =
    let s : List (Bor (List ℕ)) = c.self.inside.segments.now in
    rw (rest_after s c.self.inside.next) at (All-drop (λ (x : List ℕ). length x < 2 ^ 32) 1 (map bytes_of (drop c.self.inside.next s)) c.self.invariant)

pub returns-then-self-clause-short : goal.returns-then-self-clause-short
returns-then-self-clause-short c =
    let s : List (Bor (List ℕ)) = c.self.inside.segments.now in
    let f = short_first (map bytes_of (drop c.self.inside.next s)) c.self.invariant in
    rw (first_there s c.self.inside.next (record { ref_ptr = (0, 0); now = [] }) c.if-self.true) at f

pub returns-then-self-clause-rest : goal.returns-then-self-clause-rest
returns-then-self-clause-rest c = rw (← c.self.view_is) (rw (rest_after c.self.inside.segments.now c.self.inside.next) refl)
