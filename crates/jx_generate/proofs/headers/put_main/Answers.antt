use Rattle.jx_marker.specs.declared.Segment.TheVariants as segment
use Rattle.jx_marker.specs.Segments.{spelling}
use Rattle.jx_generate.specs.Headers.{cod_made, com_made, qcd_made}
use Rattle.jx_generate.proofs.ListLemmas.{three_appended}
use Rattle.jx_generate.proofs.headers.put_main.Goals as goal

pub returns : goal.returns
returns c =
    three_appended c.args.out.now.items c.put_cod.new.out.items c.put_qcd.new.out.items c.put_com.new.out.items (spelling 3 (segment.Cod cod_made)) (spelling 3 (segment.Qcd qcd_made))
    (spelling 3 (segment.Com com_made)) c.in_ok-put_cod.ensures c.in_ok-put_qcd.ensures c.in_ok-put_com.ensures
