-- What is said of a half of a connection is what is said of the one that it is. Source: own.
use Rattle.serprog_link.specs.declared.halves.ProgrammerIn.{ProgrammerIn}
use Rattle.serprog_link.specs.declared.halves.ProgrammerIn.TheVariants as sources
use Rattle.serprog_link.specs.declared.halves.ProgrammerOut.{ProgrammerOut}
use Rattle.serprog_link.specs.declared.halves.ProgrammerOut.TheVariants as sinks
use Rattle.serprog_link.specs.declared.serial.SerialIn.{SerialIn}
use Rattle.serprog_link.specs.declared.serial.SerialOut.{SerialOut}
use Rattle.serprog_link.specs.declared.tcp.TcpIn.{TcpIn}
use Rattle.serprog_link.specs.declared.tcp.TcpOut.{TcpOut}

abbrev pub of_source : {R F T : Type 0} → (TcpIn → T) → (SerialIn R F → T) → ProgrammerIn R F → T
of_source tcp serial (sources.Tcp half) = tcp half
of_source tcp serial (sources.Serial half) = serial half

abbrev pub of_sink : {F T : Type 0} → (TcpOut → T) → (SerialOut F → T) → ProgrammerOut F → T
of_sink tcp serial (sinks.Tcp half) = tcp half
of_sink tcp serial (sinks.Serial half) = serial half
