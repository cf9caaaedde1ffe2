-- The limits of documents 01 and 02, each named once.
use Rattle.std.specs.Prelude.{ℕ, ◌+◌, ◌*◌, ◌^◌}

-- the most controls that a panel has
abbrev pub most_controls : ℕ
most_controls = 16

-- the most controls that `panelshow` takes
abbrev pub most_shown : ℕ
most_shown = 8

-- what the first number of a sparse file has above n
abbrev pub sparse_mark : ℕ
sparse_mark = 32

abbrev pub lowest_modulus : ℕ
lowest_modulus = 2

abbrev pub largest_modulus : ℕ
largest_modulus = 4294967295

-- 01's W: how many entries of a pad a call uses
unfoldable pub pad_length : ℕ → ℕ
pad_length n = (2 * n + 4) * 2 ^ n

-- 02's limits of a recipe: the bytes of its line, and how deep its parentheses nest
abbrev pub longest_recipe : ℕ
longest_recipe = 120

abbrev pub deepest_nesting : ℕ
deepest_nesting = 8

-- how many entries of its pad a recipe uses: W, and 32 tables
unfoldable pub recipe_pad_length : ℕ → ℕ
recipe_pad_length n = pad_length n + 32 * 2 ^ n

-- the most bytes that a label has
abbrev pub longest_label : ℕ
longest_label = 8
