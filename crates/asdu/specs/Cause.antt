-- Causes of transmission that document 01 uses: IEC 60870-5-101, 7.2.3, under the names of `cot.rs`.
use Rattle.std.specs.Prelude.{ℕ}

abbrev pub spontaneous : ℕ
spontaneous = 3

abbrev pub initiated : ℕ
initiated = 4

abbrev pub request : ℕ
request = 5

abbrev pub activation : ℕ
activation = 6

abbrev pub activation_confirmation : ℕ
activation_confirmation = 7

abbrev pub deactivation : ℕ
deactivation = 8

abbrev pub deactivation_confirmation : ℕ
deactivation_confirmation = 9

abbrev pub activation_termination : ℕ
activation_termination = 10

-- Global interrogation; group g has this plus g.
abbrev pub interrogation : ℕ
interrogation = 20

-- General counter interrogation; group g has this plus g.
abbrev pub counter_interrogation : ℕ
counter_interrogation = 37
