-- A product inside one workspace: the rows in front, the left factor and the result at places behind them.
use Rattle.std.specs.Prelude.{◌≡◌, List, ℕ, ◌+◌, ◌^◌, ◌≤◌, ◌<◌, length, take, drop}
use Rattle.definitions.specs.Sums.{at}
use Rattle.definitions.specs.Products.{subset_table}
use Rattle.ranked_theory.specs.Layout.{rows_length}

-- the table of k controls that starts at a place
abbrev pub table_at : ℕ → ℕ → List ℕ → List ℕ
table_at k place w = take (2 ^ k) (drop place w)

-- a table of k controls stands at a place behind the rows
pub record Standing (k place : ℕ) (w : List ℕ) : Type 0 where
  pub few : k ≤ 16
  pub behind : rows_length k ≤ place
  pub inside : place + 2 ^ k ≤ length w

-- tables of residues; source and target may be one place, or overlap
pub record WithinReady (m k source target : ℕ) (b w : List ℕ) : Type 0 where
  pub from : Standing k source w
  pub to : Standing k target w
  pub left_below : (h : ℕ) → h < 2 ^ k → at w (source + h) < m
  pub right : length b ≡ 2 ^ k
  pub right_below : (h : ℕ) → h < 2 ^ k → at b h < m

-- the product at the target; nothing else behind the rows is changed
pub record WithinMade (m k source target : ℕ) (b w s : List ℕ) : Type 0 where
  pub there : (h : ℕ) → h < 2 ^ k → at s (target + h) ≡ at (subset_table k m (table_at k source w) b) h
  pub rest : (x : ℕ) → rows_length k ≤ x → ((h : ℕ) → h < 2 ^ k → x ≡ target + h → ⊥) → at s x ≡ at w x
