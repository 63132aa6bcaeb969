-- Lists of numbers by rising size.
use Rattle.std.specs.Prelude.{ℕ, ◌<◌, List, length, slice_index}

-- each number is above those before it
abbrev pub Rising : List ℕ → Type 0
Rising ns = (j k : ℕ) → j < k → k < length ns → slice_index ns j < slice_index ns k
