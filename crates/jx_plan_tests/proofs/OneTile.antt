-- A codestream of one tile without a coding pass, as a test puts it together again.
use Rattle.std.proofs.Common.{◌≡◌, ℕ, ◌+◌, ◌<◌, List, [], ◌∷◌, ◌++◌, length, drop, map, sym, ap, ◌∙◌, subst, arith, All}
use Rattle.std.specs.Prelude.{slice_get, slice_index_or, Some}
use Rattle.std.specs.Option.{option_map}
use Rattle.std.proofs.lemmas.List.{append_assoc, drop_more, length-map, map-append}
use Rattle.std.proofs.lemmas.List.Elements.{All-append, All-cons, All-nil, All-weaker}
use Rattle.std.proofs.lemmas.Option.{slice_get-get_or, slice_get-map}
use Rattle.jx_base.specs.declared.pieces.Block.{Block}
use Rattle.jx_base.specs.Pieces.{PieceValue}
use Rattle.jx_base.specs.Sound.{IsSound}
use Rattle.jx_geom.specs.Counts.{tile_blocks}
use Rattle.jx_geom.specs.Geometry.{rect_of_tile}
use Rattle.jx_geom.specs.Numbering.{blocks_below}
use Rattle.jx_codestream.specs.declared.Stream.{Stream}
use Rattle.jx_codestream.specs.First.{canvas_of, tile_number}
use Rattle.jx_codestream.specs.Shapes.{geometry, shapes_of}
use Rattle.jx_tier2_reader.specs.BlockOf.{AreBlocksOf}
use Rattle.jx_tile.proofs.TotalLemmas.{blocks_are}
use Rattle.jx_codeblock.specs.declared.job.Job.{Job}
use Rattle.jx_codeblock.specs.Jobs.{IsAsked}
use Rattle.jx_codeblock.specs.Recoded.{WrittenBlock}
use Rattle.jx_plan.specs.Plan.{IsPlan, Plan}
use Rattle.jx_tier2_writer.specs.Assembled.{AreOwn}
use Rattle.jx_tier2_writer.specs.Tile.{AreValuesOf, block_written, first_block}

abbrev pub job_of : WrittenBlock → Job
job_of r = r.job

abbrev pub IsBare : Block → Type 0
IsBare b = b.pieces ≡ []

pub all_own : (s : Stream) (blocks : List Block) → tile_number s.siz ≡ 1 → AreBlocksOf s blocks → AreOwn s 0 blocks blocks
all_own s blocks one are = record {
  all = are.all ∙ blocks_are s ∙ ap (λ (n : ℕ). blocks_below (canvas_of s.siz) (shapes_of s) n) one
      ∙ (let e : blocks_below (canvas_of s.siz) (shapes_of s) 1 ≡ tile_blocks (rect_of_tile (geometry s 0)) (shapes_of s 0) = omega arith in e);
  each = λ i lt. (let e : blocks_below (canvas_of s.siz) (shapes_of s) 0 + i ≡ i = omega arith in ap (slice_get blocks) e);
}

bare_layers : (layers : ℕ) (b : Block) → b.pieces ≡ [] → All (λ (q : PieceValue). q.layer < layers) b.pieces
bare_layers layers b none = subst (λ (qs : List PieceValue). All (λ (q : PieceValue). q.layer < layers) qs) (sym none) (All-nil (λ (q : PieceValue). q.layer < layers))

pub bare_values : (p : Plan) (values : List WrittenBlock) → IsPlan p → tile_number p.stream.siz ≡ 1 → map job_of values ≡ p.jobs → All IsSound (map block_written values) → All IsBare (map block_written values)
    → AreValuesOf p 0 values
bare_values p values is one jobs sound bare =
    let count : length values ≡ length p.blocks = sym (length-map values job_of) ∙ ap length jobs ∙ is.all in
    record {
      count = count ∙ (all_own p.stream p.blocks one is.may.blocks_are).all;
      each = λ i r e. (let at : first_block p 0 + i ≡ i = omega arith in
          ap (slice_get p.jobs) at ∙ ap (λ (js : List Job). slice_get js i) (sym jobs) ∙ slice_get-map job_of values i ∙ ap (option_map job_of) e);
      sound = sound;
      layers = All-weaker IsBare (λ (b : Block). All (λ (q : PieceValue). q.layer < p.layers) b.pieces) (bare_layers p.layers) (map block_written values) bare;
    }

pub bare_next : (P : Block → Type 0) (values more : List WrittenBlock) (r : WrittenBlock) → more ≡ values ++ r ∷ [] → All P (map block_written values) → P (block_written r) → All P (map block_written more)
bare_next P values more r e all one =
    subst (λ (xs : List Block). All P xs) (sym (ap (map block_written) e ∙ map-append block_written values (r ∷ [])))
    (All-append P (map block_written values) (block_written r ∷ []) all (All-cons P (block_written r) [] one (All-nil P)))

bare_all : (P : Job → Type 0) (jobs : List Job) → ((n : ℕ) (j : Job) → slice_get jobs n ≡ Some j → P j) → All P jobs
bare_all P jobs each i d lt = each i (slice_index_or jobs i d) (slice_get-get_or jobs i d lt)

pub all_asked : (p : Plan) → IsPlan p → All (λ (j : Job). IsAsked j.block.now j.style j.ends) p.jobs
all_asked p is = bare_all (λ (j : Job). IsAsked j.block.now j.style j.ends) p.jobs (λ n j e. (is.each n j e).asked)

pub jobs_next : (jobs : List Job) (values more : List WrittenBlock) (r : WrittenBlock) (j : Job) (i : ℕ) → more ≡ values ++ r ∷ [] → map job_of values ++ drop i jobs ≡ jobs → i < length jobs
    → j ≡ slice_index_or jobs i j → r.job ≡ j → map job_of more ++ drop (i + 1) jobs ≡ jobs
jobs_next jobs values more r j i e done lt is of =
    let next : drop i jobs ≡ r.job ∷ drop (i + 1) jobs = drop_more jobs i j lt ∙ ap (λ (x : Job). x ∷ drop (i + 1) jobs) (sym (of ∙ is)) in
    ap (λ (vs : List WrittenBlock). map job_of vs ++ drop (i + 1) jobs) e
    ∙ ap (λ (js : List Job). js ++ drop (i + 1) jobs) (map-append job_of values (r ∷ []))
    ∙ append_assoc (map job_of values) (r.job ∷ []) (drop (i + 1) jobs)
    ∙ ap (λ (js : List Job). map job_of values ++ js) (sym next)
    ∙ done
