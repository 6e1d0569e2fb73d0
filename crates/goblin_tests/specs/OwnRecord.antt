-- Records of a caller's own: a port, and an address with its port.
use Rattle.std.proofs.Common.{refl, lit<, [], ◌∷◌}
use Rattle.std.specs.Prelude.{slice_index}
use Rattle.goblin_base.specs.declared.container.Endian.{Endian}
use Rattle.goblin_base.specs.Fields.{field}
use Rattle.goblin_base.specs.Layout.{IsRecord, Shape, shaped}
use Rattle.goblin_base.specs.LayoutLaws.{plain_laws}
use Rattle.goblin_tests.specs.declared.own_record.Place.{Place}
use Rattle.goblin_tests.specs.declared.own_record.Port.{Port}

-- the fields of each, with their widths in bytes
abbrev pub port : Shape Port
port = record {
  fields = λ p. field 2 p.number ∷ [];
  of_values = λ values. record { number = slice_index values 0 };
}

abbrev pub place : Shape Place
place = record {
  fields = λ p. field 4 p.address ∷ field 2 p.port ∷ [];
  of_values = λ values. record { address = slice_index values 0; port = slice_index values 1 };
}

-- their laws
pub port_laws : (order : Endian) → IsRecord (shaped port order)
port_laws = plain_laws port (lit< tt) (λ p. refl) (λ p. refl) (λ order bytes. refl)

pub place_laws : (order : Endian) → IsRecord (shaped place order)
place_laws = plain_laws place (lit< tt) (λ p. refl) (λ p. refl) (λ order bytes. refl)
