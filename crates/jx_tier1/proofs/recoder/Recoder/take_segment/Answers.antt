use Rattle.std.proofs.Common.{[], ◌<◌, ◌^◌, List, ℕ, Bor, map, drop, length, refl}
use Rattle.std.proofs.lemmas.List.Elements.{All-drop}
use Rattle.jx_tier1_specs.specs.Segments.{bytes_of}
use Rattle.jx_tier1_specs.specs.Short.{AreShort}
use Rattle.jx_tier1_specs.proofs.Firsts.{first_there, rest_after, short_first}
use Rattle.jx_tier1.proofs.recoder.Recoder.take_segment.Goals as goal

pub returns-then-self-clause-recoding : goal.returns-then-self-clause-recoding
returns-then-self-clause-recoding c = rw (← c.self.view_is) (rw (rest_after c.self.inside.segments.now c.self.inside.next) refl)

pub returns-then-self-clause-short : goal.returns-then-self-clause-short
returns-then-self-clause-short c =
    let s : List (Bor (List ℕ)) = c.self.inside.segments.now in
    let h : AreShort (map bytes_of (drop c.self.inside.next s)) = rw (← c.self.view_is) at c.requires in
    let f = short_first (map bytes_of (drop c.self.inside.next s)) h in
    rw (first_there s c.self.inside.next (record { ref_ptr = (0, 0); now = [] }) c.if-self.true) at f

pub returns-then-self-clause-rest : goal.returns-then-self-clause-rest
returns-then-self-clause-rest c =
    let s : List (Bor (List ℕ)) = c.self.inside.segments.now in
    let h : AreShort (map bytes_of (drop c.self.inside.next s)) = rw (← c.self.view_is) at c.requires in
    rw (rest_after s c.self.inside.next) at (All-drop (λ (x : List ℕ). length x < 2 ^ 32) 1 (map bytes_of (drop c.self.inside.next s)) h)
