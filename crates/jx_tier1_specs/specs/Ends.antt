-- How many bytes of its segment a decoder has looked at by the end of each pass, told by where the encoder stood.
use Rattle.std.specs.Prelude.{ℕ, ◌+◌, ◌-◌, ◌||◌, List, [], ◌∷◌, ◌++◌, length, map, if◌then◌else◌}
use Rattle.jx_coder_specs.specs.MqWriting.{MqGiven}
use Rattle.jx_coder_specs.specs.RawBits.{raw_write, raw_looked, looked_from}
use Rattle.jx_base.specs.Passes.{raw_pass, end_pass}
use Rattle.jx_tier1_specs.specs.declared.stand.Stand.{Stand}
use Rattle.jx_tier1_specs.specs.Needs.{is_last}
use Rattle.jx_tier1_specs.specs.Writing.{Writing, fresh_writing, wrote, segment_by}

-- where an encoder stands within its segment: of raw bits the bytes are known that have them
abbrev pub stand_of : Writing → Stand
stand_of w =
    if w.raw then record { given = raw_looked (raw_write w.bits) (length w.bits); places = 0 }
    else record { given = length w.mq.bytes - 1; places = 27 - w.mq.ct }

-- the bytes of the finished segment that a decoder has looked at there
abbrev pub end_in : List ℕ → Stand → ℕ
end_in segment stand = looked_from segment stand.given stand.places

-- the same at the end of each pass from one on, of which the first one goes on with a coder that stood so at the ends of passes
-- of its segment
unfoldable pub ends_from : ℕ → ℕ → List Stand → Writing → List (List MqGiven) → List ℕ
ends_from style pass stands w [] = []
ends_from style pass stands w (given ∷ more) =
    let after = wrote w given in
    let all = stands ++ stand_of after ∷ [] in
    if end_pass style pass || is_last more
    then map (λ s. end_in (segment_by after) s) all ++ ends_from style (pass + 1) [] (fresh_writing after.target (raw_pass style (pass + 1)) after.contexts) more
    else ends_from style (pass + 1) all after more
