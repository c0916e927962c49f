-- ---- as the code runs: nobody need believe what follows, the laws in proofs/Entry.antt tie it to `points_asked` and `requested_asdu`
use Rattle.std.specs.Prelude.{ℕ, zero, suc, ◌+◌, List, [], ◌∷◌, ◌++◌, get_or, Option, Some, None, Result, Ok, Err}
use Rattle.limits.specs.Size.{point_octets, header_octets, address_octets}
use Rattle.octets.specs.Number.{three}
use Rattle.model.specs.Place.{point_at}
use Rattle.asdu.specs.Header.{Asdu}
use Rattle.asdu.specs.declared.command.Command.{Command}
use Rattle.asdu.specs.Command.{first_element}
use Rattle.lookup.specs.Find.{find_at}
use Rattle.report.specs.Single.{requested_asdu}

-- the octets of the requested ASDU of the point at a place: header, address and element; none where no point stands
unfoldable pub asked_of : List ℕ → Result ℕ ℕ → Option ℕ
asked_of m (Ok at) = Some (first_element + point_octets (get_or m at 0))
asked_of m (Err at) = None

-- both together, missing where one is
abbrev pub together : Option ℕ → Option ℕ → Option ℕ
together (Some a) (Some b) = Some (a + b)
together (Some a) None = None
together None b = None

-- the octets for the n addresses from `at` of a command, asked of the h places from `first`
unfoldable pub asked_at : List ℕ → ℕ → ℕ → List ℕ → ℕ → ℕ → Option ℕ
asked_at m first h asdu at zero = Some 0
asked_at m first h asdu at (suc n) = together (asked_of m (find_at m first h (three asdu at))) (asked_at m first h asdu (at + address_octets) n)

-- the requested ASDU of the point at a place
unfoldable pub requested_of : List ℕ → ℕ → Result ℕ ℕ → List Asdu
requested_of m ca (Ok at) = requested_asdu ca (point_at m at) ∷ []
requested_of m ca (Err at) = []

-- those of the n addresses from `at`, one after another
unfoldable pub requested_at : List ℕ → ℕ → ℕ → ℕ → List ℕ → ℕ → ℕ → List Asdu
requested_at m first h ca asdu at zero = []
requested_at m first h ca asdu at (suc n) =
    requested_of m ca (find_at m first h (three asdu at)) ++ requested_at m first h ca asdu (at + address_octets) n

-- those of a command's objects
abbrev pub requested_by : List ℕ → ℕ → ℕ → Command → List ℕ → List Asdu
requested_by m first h c asdu = requested_at m first h c.ca asdu header_octets c.count
