-- What the definitions give for number 0, computed.
use Rattle.std.proofs.Common.{◌≡◌, [], ◌∷◌, map, refl}
use Rattle.workload.specs.Generator.{next_state, draw, generated_room, generated_layout, luminaire_at, luminaire_row, luminaires}

pub draws_of_0 : map (draw 0) (1 ∷ 2 ∷ 3 ∷ 4 ∷ 5 ∷ 6 ∷ 7 ∷ 8 ∷ []) ≡ 0 ∷ 21468 ∷ 9988 ∷ 22117 ∷ 3498 ∷ 16927 ∷ 16045 ∷ 19741 ∷ []
unfolding next_state
draws_of_0 = refl

pub layout_of_0 :
    generated_layout 0
    ≡ record {
      room = record { width = 4000; depth = 6000; height = 3250; nx = 8; ny = 12; nz = 6; floor = 200; ceiling = 750; walls = 500 ∷ 500 ∷ 500 ∷ 500 ∷ [] };
      columns = 2;
      rows = 2;
    }
unfolding next_state generated_room
layout_of_0 = refl

pub luminaires_of_0 :
    luminaires (generated_layout 0)
    ≡ record { web = 0; x = 1000; y = 1500; z = 3050; rotation = 0; level = 1000 }
    ∷ record { web = 0; x = 3000; y = 1500; z = 3050; rotation = 0; level = 1000 }
    ∷ record { web = 0; x = 1000; y = 4500; z = 3050; rotation = 0; level = 1000 }
    ∷ record { web = 0; x = 3000; y = 4500; z = 3050; rotation = 0; level = 1000 }
    ∷ []
unfolding next_state generated_room luminaire_at luminaire_row luminaires
luminaires_of_0 = refl
