-- The limits behind refusals 8, 10, 11 and 14 (document 01, "Numbers of refusal"). Assumes nothing.
use Rattle.std.specs.Prelude.{ℕ}

pub record Limits : Type 0 where
  -- the bytes of a message
  pub bytes : ℕ
  -- the levels of elements, the root's being the first
  pub levels : ℕ
  -- the attributes of an element
  pub attributes : ℕ
  -- the bytes of a part of a name
  pub part : ℕ

abbrev pub link_limits : Limits
link_limits = record { bytes = 65520; levels = 32; attributes = 16; part = 64 }
