mod LinesOfHosts
