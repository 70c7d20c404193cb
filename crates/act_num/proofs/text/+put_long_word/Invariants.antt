use Rattle.act_num.proofs.text.+put_long_word.Given as goal

abbrev pub decreases-put_long_word : goal.decreases-put_long_word
decreases-put_long_word l = l.number
