use Rattle.std.proofs.Common.{sym}
use Rattle.jx_transcode.proofs.ReducedLemmas.{all_kept}
use Rattle.jx_transcode.proofs.rewrite.without_resolutions.Goals as goal

pub reduce-requires-clause-may : goal.reduce-requires-clause-may
reduce-requires-clause-may c = rw c.deref.ensures.value c.requires.may

pub returns-then-reduce-eq0-clause-ok : goal.returns-then-reduce-eq0-clause-ok
returns-then-reduce-eq0-clause-ok c = λ input reads. rw c.if-reduce-eq0.true
    (all_kept c.whole_stays.ensures.stream c.whole_stays.ensures.blocks c.whole_stays.ensures.free input c.args.picture.stream c.args.picture.blocks.items c.requires.may reads)

pub returns-in-Ok-clause-ok : goal.returns-in-Ok-clause-ok
returns-in-Ok-clause-ok c = λ input reads. record {
  whole = c.args.picture.stream;
  all = c.args.picture.blocks.items;
  reads = reads;
  free = c.in-Ok.ensures.free;
  stream = c.in-Ok.ensures.stream;
  blocks_are = rw (sym c.deref.ensures.value) c.in-Ok.ensures.blocks;
}
