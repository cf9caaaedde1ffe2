-- The laws by which zeros are skipped and the next entry is found.
use Rattle.nonzero_entries.specs.EntryLaws.{none_skipped, one_skipped, here_next, none_next, eight_zeros}

pub ruleset skipping = (none_skipped, one_skipped, here_next, none_next, eight_zeros)
