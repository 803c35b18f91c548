use Rattle.of_instances.proofs.instance_words.+read_numbers.Given as goal

abbrev pub decreases-read_numbers : goal.decreases-read_numbers
decreases-read_numbers l = l.more
