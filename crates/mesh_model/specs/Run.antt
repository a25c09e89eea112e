-- The run of a scenario: the words of the call, the state, the step of each command, the rules that
-- refuse a line, the run of all lines, the lines that are generated, and the status in which a run
-- ends; and the run of lines of routes. It stands on all rooms before it. The main words are
-- `plain_run`, in PlainRun, `loop_run`, in LoopRun, and `run_of`, in InputRun.
pub mod CommandLine
pub mod State
pub mod Outcome
pub mod Passing
pub mod KnownTables
pub mod Shown
pub mod Steps
pub mod Names
pub mod Demands
pub mod Rules
pub mod PlainRun
pub mod LoopRun
pub mod InputRun
pub mod Generated
pub mod Halting
pub mod Statuses
