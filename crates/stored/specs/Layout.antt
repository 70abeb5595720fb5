-- Document 01, "The stored sheet": where its parts stand, and every limit. They are said here alone.
use Rattle.std.specs.Prelude.{ℕ, ◌+◌, ◌-◌, ◌*◌}

-- Bytes 0 to 8 are the header. The node area starts after it, six bytes a node; then come the clauses, eleven bytes each.
abbrev pub nodes_start : ℕ
nodes_start = 9

abbrev pub node_size : ℕ
node_size = 6

abbrev pub clause_size : ℕ
clause_size = 11

-- byte 3: a requirement, or an emitted formula
abbrev pub requirement_kind : ℕ
requirement_kind = 1

abbrev pub emitted_kind : ℕ
emitted_kind = 2

-- where the area of n nodes ends: there the clauses start, and a sheet of kind 2 ends
abbrev pub nodes_end : ℕ → ℕ
nodes_end n = nodes_start + node_size * n

-- where a sheet of n nodes and c clauses ends
abbrev pub clauses_end : ℕ → ℕ → ℕ
clauses_end n c = nodes_end n + clause_size * c

-- what bytes 0–1 say of so many bytes: how many follow them
abbrev pub following : ℕ → ℕ
following size = size - 2

-- A trace has a header of four bytes, then two bytes a cycle.
abbrev pub cycles_start : ℕ
cycles_start = 4

abbrev pub cycle_size : ℕ
cycle_size = 2

-- the most signals, names, nodes and clauses of a sheet of kind 1, and the most cycles of a trace
abbrev pub most_signals : ℕ
most_signals = 16

abbrev pub most_names : ℕ
most_names = 3

abbrev pub most_nodes : ℕ
most_nodes = 64

abbrev pub most_clauses : ℕ
most_clauses = 8

abbrev pub most_cycles : ℕ
most_cycles = 64

-- the bytes of the longest sheet of kind 1, and of the longest trace
abbrev pub most_sheet : ℕ
most_sheet = clauses_end most_nodes most_clauses

abbrev pub most_trace : ℕ
most_trace = cycles_start + cycle_size * most_cycles

-- the bytes that an operation which writes a sheet is lent at least, and the words that check and table borrow
abbrev pub least_output : ℕ
least_output = 8192

abbrev pub least_words : ℕ
least_words = 4096
