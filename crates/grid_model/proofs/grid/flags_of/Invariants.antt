use Rattle.std.proofs.Common.{◌≡◌, ◌==◌, ℕ, false, slice_index_or, vec_len, take}
use Rattle.std.specs.List.{list_any}
use Rattle.grid_model.proofs.grid.flags_of.Given as goal

abbrev pub invariant-loop-source : goal.invariant-loop-source
invariant-loop-source l = record {
  count : vec_len l.flags ≡ l.nodes;
  flags : (n : ℕ) → slice_index_or l.flags.items n false ≡ list_any (λ s. s.0 == n) (take l.source-index l.sources);
}
