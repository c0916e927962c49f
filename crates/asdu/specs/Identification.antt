-- Type identifications that document 01 names one by one: IEC 60870-5-101, 7.2.1.
use Rattle.std.specs.Prelude.{ℕ}

abbrev pub end_of_initialization : ℕ
end_of_initialization = 70

abbrev pub interrogation_command : ℕ
interrogation_command = 100

abbrev pub counter_interrogation_command : ℕ
counter_interrogation_command = 101

abbrev pub read_command : ℕ
read_command = 102

abbrev pub clock_command : ℕ
clock_command = 103

abbrev pub test_command : ℕ
test_command = 104

abbrev pub reset_process_command : ℕ
reset_process_command = 105

abbrev pub timed_test_command : ℕ
timed_test_command = 107
