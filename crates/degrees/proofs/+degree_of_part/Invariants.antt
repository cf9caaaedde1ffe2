use Rattle.degrees.proofs.+degree_of_part.Given as goal

abbrev pub decreases-degree_of_part : goal.decreases-degree_of_part
decreases-degree_of_part l = l.q
