mod Hosts
mod HostNames
