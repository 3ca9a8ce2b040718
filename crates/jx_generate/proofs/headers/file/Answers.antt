use Rattle.jx_marker.specs.declared.Segment.TheVariants as segment
use Rattle.jx_marker.specs.Segments.{spelling}
use Rattle.jx_codestream.specs.Spells.{all_bytes, part_bytes}
use Rattle.jx_generate.specs.Headers.{main_made, siz_made}
use Rattle.jx_generate.specs.Made.{file_with, part_with}
use Rattle.jx_generate.proofs.ListLemmas.{file_put}
use Rattle.jx_generate.proofs.headers.file.Goals as goal

pub returns : goal.returns
unfolding file_with
returns c =
    file_put c.new-out.result.items c.put_front.new.out.items c.put_main.new.out.items c.put_part.new.out.items c.put_segment.new.out.items (spelling 1 segment.Soc)
    (spelling 1 (segment.Siz (siz_made c.args.width c.args.height))) (all_bytes 3 main_made) (part_bytes 3 (part_with c.args.body.now)) (spelling 3 segment.Eoc)
    c.new-out.ensures.items c.in_ok-put_front.ensures c.in_ok-put_main.ensures c.in_ok-put_part.ensures c.in_ok-put_segment.ensures.ok
