use Rattle.act_transcript.proofs.beside.SideBySideWay.write_answer.Goals as goal

pub write_in_windows-requires-sync-R : goal.write_in_windows-requires-sync-R
write_in_windows-requires-sync-R g c κs within = c.requires.way

pub renew_all-requires-sync-R : goal.renew_all-requires-sync-R
renew_all-requires-sync-R g c κs within = c.requires.way
