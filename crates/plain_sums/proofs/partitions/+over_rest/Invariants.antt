use Rattle.plain_sums.proofs.partitions.+over_rest.Given as goal

-- What is left falls at each call, since a block is not empty.
abbrev pub decreases-over_rest : goal.decreases-over_rest
decreases-over_rest l = l.left
