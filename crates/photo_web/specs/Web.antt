-- A photometric web: luminous intensities over C-planes and gamma angles (the C system of CIE 121).
use Rattle.std.specs.Prelude.{ℕ, ◌+◌, ◌*◌, List, length, slice_index, take, drop}

-- planes and gammas in millidegrees; the values in microcandela stand plane by plane, one for each gamma
pub record PhotometricWeb : Type 0 where
  pub planes : List ℕ
  pub gammas : List ℕ
  pub values : List ℕ

-- a row of values of which each row has as many as the width
abbrev pub row_values : ℕ → List ℕ → ℕ → List ℕ
row_values width values row = take width (drop (row * width) values)

-- the values on a plane
abbrev pub plane_values : PhotometricWeb → ℕ → List ℕ
plane_values w plane = row_values (length w.gammas) w.values plane

-- the value on a plane at a gamma
abbrev pub value_at : PhotometricWeb → ℕ → ℕ → ℕ
value_at w plane gamma = slice_index w.values (plane * length w.gammas + gamma)
