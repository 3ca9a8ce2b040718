use Rattle.jx_packet_header.proofs.parts.+first_run.Given as goal

abbrev pub decreases-first_run : goal.decreases-first_run
decreases-first_run l = l.left
